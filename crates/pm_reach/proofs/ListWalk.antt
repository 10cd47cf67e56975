-- The valid lists of bounds, taken one after another.
use Rattle.std.proofs.Common.{◌≡◌, inl, inr, ℕ, zero, suc, ◌-◌, ◌*◌, ◌<◌, ◌≤◌, List, [], ◌∷◌, ◌++◌, map, length, slice_index, replicate, All, ap, sym, ◌∙◌, subst, refl, arith}
use Rattle.std.proofs.lemmas.List.{ext_get_or, get_or-replicate, length-append, length-map, length-replicate}
use Rattle.std.proofs.lemmas.Bool.{cases_order}
use Rattle.pm_lists.specs.Valid.{IsValidList}
use Rattle.pm_reach.specs.Census.{product, lists_beginning, valid_lists, IsNextAt, IsLastList}
use Rattle.pm_reach.specs.steps.Walking.{lists_after}

-- what holds of all bounds holds of those behind the first
all_behind : (bound : ℕ) (bounds : List ℕ) → All (λ bound. 1 ≤ bound) (bound ∷ bounds) → All (λ bound. 1 ≤ bound) bounds
all_behind bound bounds each = λ place other within. each (suc place) other (omega arith)

-- the first list has zeros alone
pub valid_lists-first : (bounds : List ℕ) → All (λ bound. 1 ≤ bound) bounds
    → valid_lists bounds ≡ replicate (length bounds) 0 ∷ lists_after bounds (replicate (length bounds) 0)
valid_lists-first [] each = refl
valid_lists-first (bound ∷ bounds) each =
    let some : bound ≡ suc (bound - suc zero) = omega (arith, each 0 1 (omega arith)) in
    ap (λ more. lists_beginning 0 more (valid_lists bounds)) some
    ∙ ap (λ lists. map (λ rest. 0 ∷ rest) lists ++ lists_beginning (suc zero) (bound - suc zero) (valid_lists bounds)) (valid_lists-first bounds (all_behind bound bounds each))

-- no list is behind the last
pub lists_after-last : (bounds values : List ℕ) → length values ≡ length bounds → IsLastList bounds values → lists_after bounds values ≡ []
lists_after-last [] values size last = refl
lists_after-last (bound ∷ bounds) [] size last = refl
lists_after-last (bound ∷ bounds) (value ∷ values) size last =
    let none : bound - suc value ≡ zero = omega (arith, last.greatest 0 (omega arith)) in
    let rest : IsLastList bounds values = record { greatest = λ place within. last.greatest (suc place) (omega arith) } in
    ap (λ lists. map (λ rest. value ∷ rest) lists ++ lists_beginning (suc value) (bound - suc value) (valid_lists bounds)) (lists_after-last bounds values (omega arith) rest)
    ∙ ap (λ more. lists_beginning (suc value) more (valid_lists bounds)) none

-- where the rest of a list is the last, the first entry grows
lists_after-here : (bound value : ℕ) (bounds values zeros : List ℕ) → lists_after bounds values ≡ [] → suc value < bound
    → valid_lists bounds ≡ zeros ∷ lists_after bounds zeros
    → lists_after (bound ∷ bounds) (value ∷ values) ≡ (suc value ∷ zeros) ∷ lists_after (bound ∷ bounds) (suc value ∷ zeros)
lists_after-here bound value bounds values zeros none below first =
    let some : bound - suc value ≡ suc (bound - suc (suc value)) = omega arith in
    ap (λ lists. map (λ rest. value ∷ rest) lists ++ lists_beginning (suc value) (bound - suc value) (valid_lists bounds)) none
    ∙ ap (λ more. lists_beginning (suc value) more (valid_lists bounds)) some
    ∙ ap (λ lists. map (λ rest. suc value ∷ rest) lists ++ lists_beginning (suc (suc value)) (bound - suc (suc value)) (valid_lists bounds)) first

-- a list of zeros
zeros-replicate : (values : List ℕ) (size : ℕ) → length values ≡ size → ((place : ℕ) → place < length values → slice_index values place ≡ 0) → values ≡ replicate size 0
zeros-replicate values size as_long zeros =
    ext_get_or 0 values (replicate size 0) (as_long ∙ sym (length-replicate size 0))
    (λ place within. zeros place within ∙ sym (get_or-replicate size place 0 0 (omega arith)))

-- the next list is the first of those behind
pub lists_after-next : (bounds values next : List ℕ) (place : ℕ) → All (λ bound. 1 ≤ bound) bounds → length values ≡ length bounds
    → IsNextAt bounds values next place → lists_after bounds values ≡ next ∷ lists_after bounds next
lists_after-next bounds [] next place each size n = absurd (omega (arith, n.within))
lists_after-next [] (value ∷ values) next place each size n = absurd (omega arith)
lists_after-next (bound ∷ bounds) (value ∷ values) [] place each size n = absurd (omega (arith, n.as_long))
lists_after-next (bound ∷ bounds) (value ∷ values) (entry ∷ next) zero each size n =
    let last : IsLastList bounds values = record { greatest = λ later within. n.greatest (suc later) (omega arith) (omega arith) } in
    let zeros : next ≡ replicate (length bounds) 0 = zeros-replicate next (length bounds) (omega (arith, n.as_long)) (λ later within. n.zeros (suc later) (omega arith) (omega (arith, n.as_long))) in
    let greater : entry ≡ suc value = omega (arith, n.greater) in
    subst (λ list. lists_after (bound ∷ bounds) (value ∷ values) ≡ list ∷ lists_after (bound ∷ bounds) list)
    (ap (λ e. e ∷ replicate (length bounds) 0) (sym greater) ∙ ap (λ rest. entry ∷ rest) (sym zeros))
    (lists_after-here bound value bounds values (replicate (length bounds) 0) (lists_after-last bounds values (omega arith) last)
    (omega (arith, n.below, greater)) (valid_lists-first bounds (all_behind bound bounds each)))
lists_after-next (bound ∷ bounds) (value ∷ values) (entry ∷ next) (suc place) each size n =
    let same : entry ≡ value = n.before 0 (omega arith) in
    let rest : IsNextAt bounds values next place = record {
      within = omega (arith, n.within);
      as_long = omega (arith, n.as_long);
      before = λ earlier h. n.before (suc earlier) (omega arith);
      greater = n.greater;
      below = n.below;
      greatest = λ later h within. n.greatest (suc later) (omega arith) (omega arith);
      zeros = λ later h within. n.zeros (suc later) (omega arith) (omega arith);
    } in
    subst (λ e. lists_after (bound ∷ bounds) (value ∷ values) ≡ (e ∷ next) ∷ lists_after (bound ∷ bounds) (e ∷ next)) (sym same)
    (ap (λ lists. map (λ rest. value ∷ rest) lists ++ lists_beginning (suc value) (bound - suc value) (valid_lists bounds))
    (lists_after-next bounds values next place (all_behind bound bounds each) (omega arith) rest))

-- the next list is valid
pub IsValidList-next : (bounds values next : List ℕ) (place : ℕ) → IsValidList values bounds → IsNextAt bounds values next place → IsValidList next bounds
IsValidList-next bounds values next place valid n = record {
  as_long = n.as_long ∙ valid.as_long;
  below = λ at within. elim (cases_order at place) [
    | inr (inl h) ↦ subst (λ e. e < slice_index bounds at) (sym (n.before at h)) (valid.below at (omega (arith, n.as_long)))
    | inl here ↦ subst (λ p. slice_index next p < slice_index bounds p) (sym here) n.below
    | inr (inr h) ↦ omega (arith, n.zeros at h (omega (arith, n.as_long)), n.greatest at h (omega (arith, n.as_long)))
  ];
}

length-lists_beginning : (first more : ℕ) (rests : List (List ℕ)) → length (lists_beginning first more rests) ≡ more * length rests
length-lists_beginning first zero rests = omega arith
length-lists_beginning first (suc more) rests =
    let whole = length-append (map (λ rest. first ∷ rest) rests) (lists_beginning (suc first) more rests) in
    let head = length-map rests (λ rest. first ∷ rest) in
    let tail = length-lists_beginning (suc first) more rests in
    omega (arith, whole, head, tail)

-- there are as many valid lists as the product of the bounds
pub length-valid_lists : (bounds : List ℕ) → length (valid_lists bounds) ≡ product bounds
length-valid_lists [] = refl
length-valid_lists (bound ∷ bounds) =
    length-lists_beginning 0 bound (valid_lists bounds) ∙ ap (λ count. bound * count) (length-valid_lists bounds)
