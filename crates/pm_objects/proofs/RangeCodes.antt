-- The codes by range: an arrangement code for each arity.
use Rattle.std.proofs.Common.{drop_at, take_at, drop, take, ◌≡◌, ℕ, zero, suc, ◌<◌, List, [], ◌∷◌, ◌++◌, length, refl, ap, ap₂, sym, ◌∙◌, subst, arith, append_assoc}
use Rattle.std.specs.Prelude.{flat_map}
use Rattle.pm_lists.specs.Valid.{IsValidList}
use Rattle.pm_lehmer.specs.Lehmer.{IsArrangementCode}
use Rattle.pm_objects.specs.Codes.{code_bounds, bounds_by_range}
use Rattle.pm_objects.specs.Objects.{AreApart, range_at}
use Rattle.pm_objects.proofs.CodeBounds.{length-code_bounds, code_bound, valid_cons}
use Rattle.pm_objects.proofs.Sorting.{instead, instead_here, instead_other}

-- a valid list whose bounds are those of two lists
pub record IsValidSplit (values bounds others : List ℕ) : Type 0 where
  pub prefix : List ℕ
  pub rest : List ℕ
  pub whole : prefix ++ rest ≡ values
  pub prefix_is_valid : IsValidList prefix bounds
  pub rest_is_valid : IsValidList rest others

pub valid_split : (values bounds others : List ℕ) → IsValidList values (bounds ++ others) → IsValidSplit values bounds others
valid_split values [] others valid = record {
  prefix = [];
  rest = values;
  whole = refl;
  prefix_is_valid = record { as_long = refl; below = λ k less. absurd (omega arith) };
  rest_is_valid = valid;
}
valid_split [] (bound ∷ bounds) others valid = absurd (let e = valid.as_long in omega arith)
valid_split (value ∷ values) (bound ∷ bounds) others valid =
    let e = valid.as_long in
    let s = valid_split values bounds others (record { as_long = omega arith; below = λ k less. valid.below (suc k) (omega arith) }) in
    record {
      prefix = value ∷ s.prefix;
      rest = s.rest;
      whole = ap (λ (xs : List ℕ). value ∷ xs) s.whole;
      prefix_is_valid = valid_cons value bound s.prefix bounds (valid.below 0 (omega arith)) s.prefix_is_valid;
      rest_is_valid = s.rest_is_valid;
    }

pub valid_parts : (n : ℕ) (values bounds others : List ℕ) → length bounds ≡ n → IsValidList values (bounds ++ others) → IsValidList (take n values) bounds × IsValidList (drop n values) others
valid_parts n values bounds others long valid =
    let s = valid_split values bounds others valid in
    let all = s.prefix_is_valid.as_long ∙ long in (
      subst (λ (xs : List ℕ). IsValidList xs bounds) (sym (ap (take n) (sym s.whole) ∙ take_at s.prefix s.rest n all)) s.prefix_is_valid,
      subst (λ (xs : List ℕ). IsValidList xs others) (sym (ap (drop n) (sym s.whole) ∙ drop_at s.prefix s.rest n all)) s.rest_is_valid,
    )

-- and one with a bound behind
pub record HasLast (values bounds : List ℕ) (bound : ℕ) : Type 0 where
  pub prefix : List ℕ
  pub last : ℕ
  pub whole : values ≡ prefix ++ last ∷ []
  pub valid : IsValidList prefix bounds
  pub low : last < bound

pub valid_last : (values bounds : List ℕ) (bound : ℕ) → IsValidList values (bounds ++ bound ∷ []) → HasLast values bounds bound
valid_last values bounds bound valid =
    let s = valid_split values bounds (bound ∷ []) valid in
    ends s.prefix s.rest s.whole s.prefix_is_valid s.rest_is_valid where
      ends : (prefix rest : List ℕ) → prefix ++ rest ≡ values → IsValidList prefix bounds → IsValidList rest (bound ∷ []) → HasLast values bounds bound
      ends prefix (last ∷ []) e a b = record { prefix = prefix; last = last; whole = sym e; valid = a; low = b.below 0 (omega arith) }
      ends prefix [] e a b = absurd (let l = b.as_long in omega (arith, l))
      ends prefix (last ∷ next ∷ more) e a b = absurd (let l = b.as_long in omega (arith, l))

-- a list that is valid for the bounds of a code is one
pub record IsCodeOfLength (n : ℕ) (code : List ℕ) : Type 0 where
  pub long : length code ≡ n
  pub is_code : IsArrangementCode code

pub code_from_valid : (n : ℕ) (code : List ℕ) → IsValidList code (code_bounds n) → IsCodeOfLength n code
code_from_valid n code valid =
    let long : length code ≡ n = valid.as_long ∙ length-code_bounds n in
    record {
      long = long;
      is_code = record { below = λ place inside. let low = valid.below place inside in let bound = code_bound n place (omega (arith, inside, long)) in omega (arith, low, bound, inside, long) };
    }

pub flat_agree : (f g : ℕ × ℕ → List ℕ) (ranges : List (ℕ × ℕ)) → ((k : ℕ) → k < length ranges → f (range_at ranges k) ≡ g (range_at ranges k)) → flat_map f ranges ≡ flat_map g ranges
flat_agree f g [] same = refl
flat_agree f g (p ∷ ranges) same = ap₂ (λ (xs ys : List ℕ). xs ++ ys) (same 0 (omega arith)) (flat_agree f g ranges (λ k less. same (suc k) (omega arith)))

-- the code of each arity degree; 0 is that of the leaves
pub record HaveCodes (ranges : List (ℕ × ℕ)) (leaves : ℕ) (codes : List ℕ) : Type 0 where
  pub code : ℕ → List ℕ
  pub whole : flat_map (λ (p : ℕ × ℕ). code (p.0)) ranges ++ code 0 ≡ codes
  pub of_range : (k : ℕ) → k < length ranges → IsValidList (code ((range_at ranges k).0)) (code_bounds (range_at ranges k).1)
  pub of_leaves : IsValidList (code 0) (code_bounds leaves)
  pub of_others : (arity : ℕ) → 0 < arity → ((k : ℕ) → k < length ranges → (range_at ranges k).0 ≡ arity → ⊥) → code arity ≡ []

-- the codes of the other ranges, with one for the first range
more_codes : (p : ℕ × ℕ) (ranges : List (ℕ × ℕ)) (leaves : ℕ) (codes : List ℕ) → AreApart (p ∷ ranges) → (s : IsValidSplit codes (code_bounds p.1) (flat_map (λ (q : ℕ × ℕ). code_bounds q.1) ranges ++ code_bounds leaves))
    → HaveCodes ranges leaves s.rest → HaveCodes (p ∷ ranges) leaves codes
more_codes p ranges leaves codes are s h =
    let code : ℕ → List ℕ = instead h.code (p.0) s.prefix in
    let here : instead h.code (p.0) s.prefix (p.0) ≡ s.prefix = instead_here h.code (p.0) s.prefix (p.0) refl in
    let none : instead h.code (p.0) s.prefix 0 ≡ h.code 0 = instead_other h.code (p.0) s.prefix 0 (λ e. let some = are.some 0 (omega arith) in omega (arith, e, some)) in
    let later : (k : ℕ) → k < length ranges → instead h.code (p.0) s.prefix ((range_at ranges k).0) ≡ h.code ((range_at ranges k).0) =
    λ k less. instead_other h.code (p.0) s.prefix ((range_at ranges k).0) (λ e. are.apart 0 (suc k) (omega arith) (omega arith) (sym e)) in
    record {
      code = code;
      whole = append_assoc (code (p.0)) (flat_map (λ (q : ℕ × ℕ). code (q.0)) ranges) (code 0)
          ∙ ap₂ (λ (xs ys : List ℕ). xs ++ ys) here (ap₂ (λ (xs ys : List ℕ). xs ++ ys) (flat_agree (λ q. code (q.0)) (λ q. h.code (q.0)) ranges later) none ∙ h.whole) ∙ s.whole;
      of_range = each here later;
      of_leaves = subst (λ (c : List ℕ). IsValidList c (code_bounds leaves)) (sym none) h.of_leaves;
      of_others = λ arity some other.
          instead_other h.code (p.0) s.prefix arity (λ e. other 0 (omega arith) (sym e)) ∙ h.of_others arity some (λ k less. other (suc k) (omega arith));
    } where
      each : instead h.code (p.0) s.prefix (p.0) ≡ s.prefix → ((k : ℕ) → k < length ranges → instead h.code (p.0) s.prefix ((range_at ranges k).0) ≡ h.code ((range_at ranges k).0))
          → (k : ℕ) → k < suc (length ranges) → IsValidList (instead h.code (p.0) s.prefix ((range_at (p ∷ ranges) k).0)) (code_bounds (range_at (p ∷ ranges) k).1)
      each here later zero less = subst (λ (c : List ℕ). IsValidList c (code_bounds p.1)) (sym here) s.prefix_is_valid
      each here later (suc k) less = subst (λ (c : List ℕ). IsValidList c (code_bounds (range_at ranges k).1)) (sym (later k (omega arith))) (h.of_range k (omega arith))

pub codes_exist : (ranges : List (ℕ × ℕ)) (leaves : ℕ) (codes : List ℕ) → AreApart ranges → IsValidList codes (bounds_by_range ranges leaves) → HaveCodes ranges leaves codes
codes_exist [] leaves codes are valid =
    let none : ℕ → List ℕ = λ arity. [] in
    record {
      code = instead none 0 codes;
      whole = instead_here none 0 codes 0 refl;
      of_range = λ k less. absurd (omega arith);
      of_leaves = subst (λ (c : List ℕ). IsValidList c (code_bounds leaves)) (sym (instead_here none 0 codes 0 refl)) valid;
      of_others = λ arity some other. instead_other none 0 codes arity (λ e. omega (arith, e, some));
    }
codes_exist (p ∷ ranges) leaves codes are valid =
    let bounds : List ℕ = flat_map (λ (q : ℕ × ℕ). code_bounds q.1) ranges in
    let s = valid_split codes (code_bounds p.1) (bounds ++ code_bounds leaves) (subst (IsValidList codes) (append_assoc (code_bounds p.1) bounds (code_bounds leaves)) valid) in
    more_codes p ranges leaves codes are s
    (codes_exist ranges leaves s.rest
    (record { some = λ k less. are.some (suc k) (omega arith); apart = λ j k before less. are.apart (suc j) (suc k) (omega arith) (omega arith) })
    s.rest_is_valid)
