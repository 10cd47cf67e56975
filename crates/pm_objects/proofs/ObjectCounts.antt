-- The objects of ranges: their arities, the sum and number of these, the word of an arrangement, and how many objects have
-- which arity.
use Rattle.std.proofs.Common.{◌≡◌, ◌⊎◌, ℕ, zero, suc, ◌+◌, ◌-◌, ◌*◌, ◌<◌, ◌≤◌, Bool, cond, inl, inr, List, [], ◌∷◌, length, map, replicate, take, take_all, refl, ap, sym, ◌∙◌, arith, length-append, append-nil, pos, ◌+ℤ◌, neg_ℤ, eq-eqb, ne_eqb}
use Rattle.std.specs.Prelude.{sum, count_by, ◌==◌, ◌≢◌}
use Rattle.std.specs.List.{sum_by, range_with_len}
use Rattle.std.proofs.lemmas.Int.{ints}
use Rattle.std.proofs.lemmas.Bool.{cases_eq, cases_order}
use Rattle.std.proofs.lemmas.List.{length-map, length-replicate}
use Rattle.std.proofs.lemmas.List.FromFn.{length-range_with_len, get_or-range_with_len}
use Rattle.std.proofs.lemmas.List.Folds.{sum_by-replicate}
use Rattle.std.proofs.lemmas.List.Sums.{sum_by-append, sum_by-cons, sum-map}
use Rattle.pm_perm.specs.Permutation.{IsPermutationList}
use Rattle.pm_words.specs.Word.{sum_of, turned}
use Rattle.pm_words.specs.Plane.{letter_of}
use Rattle.pm_words.proofs.PlaneWords.{letter_of-is, sum_of-cons}
use Rattle.pm_objects.specs.Objects.{AreApart, range_at, arities_of, nodes_of_ranges, arity_of, letters_of}
use Rattle.pm_objects.proofs.ObjectSums.{sum_by-permutation, sum_by-turned, sum_upto-list}

-- a sum over the arities, range by range
pub sum_by-arities : (f : ℕ → ℕ) (ranges : List (ℕ × ℕ)) → sum_by f (arities_of ranges) ≡ sum_by (λ (r : ℕ × ℕ). r.1 * f r.0) ranges
sum_by-arities f [] = refl
sum_by-arities f (r ∷ ranges) =
    omega (arith, sum_by-append f (replicate r.1 r.0) (arities_of ranges), sum_by-replicate f r.1 r.0, sum_by-arities f ranges, sum_by-cons (λ (r : ℕ × ℕ). r.1 * f r.0) r ranges)

-- the nodes, range by range
pub nodes_by_ranges : (ranges : List (ℕ × ℕ)) → nodes_of_ranges ranges ≡ sum_by (λ (r : ℕ × ℕ). r.1) ranges
nodes_by_ranges [] = refl
nodes_by_ranges (r ∷ ranges) =
    omega (arith, length-append (replicate r.1 r.0) (arities_of ranges), length-replicate r.1 r.0, nodes_by_ranges ranges, sum_by-cons (λ (r : ℕ × ℕ). r.1) r ranges)

pub nodes_counted : (ranges : List (ℕ × ℕ)) (i nodes : ℕ) → length ranges ≤ i → nodes ≡ sum_by (λ (r : ℕ × ℕ). r.1) (take i ranges) → nodes ≡ nodes_of_ranges ranges
nodes_counted ranges i nodes past e = e ∙ ap (sum_by (λ (r : ℕ × ℕ). r.1)) (take_all i ranges past) ∙ sym (nodes_by_ranges ranges)

sum_of-letters : (arities objects : List ℕ) → sum_of (letters_of arities objects) +ℤ pos (length objects) ≡ pos (sum_by (arity_of arities) objects)
sum_of-letters arities [] = omega (arith, ints)
sum_of-letters arities (object ∷ objects) =
    omega (
      arith,
      ints,
      sum_of-cons (letter_of (arity_of arities object)) (letters_of arities objects),
      letter_of-is (arity_of arities object),
      sum_of-letters arities objects,
      sum_by-cons (arity_of arities) object objects,
    )

-- where there are so many more objects than children
pub letters_sum : (goal : ℕ) (arities arrangement : List ℕ) → IsPermutationList arrangement → length arities ≤ length arrangement → length arrangement ≡ sum arities + goal
    → sum_of (letters_of arities arrangement) ≡ neg_ℤ (pos goal)
letters_sum goal arities arrangement permutation few long =
    let whole = sum_by-permutation (arity_of arities) arrangement permutation in
    let all = sum_upto-list (λ x. x) arities (length arrangement) few in
    omega (arith, ints, sum_of-letters arities arrangement, whole, all, long)

-- the objects of an arity
equal_one : (arity other : ℕ) → arity ≡ other → cond {A = ℕ} (arity == other) 1 0 ≡ 1
equal_one arity other e = ap (λ (b : Bool). cond {A = ℕ} b 1 0) (eq-eqb arity other e)

equal_none : (arity other : ℕ) → (arity ≡ other → ⊥) → cond {A = ℕ} (arity == other) 1 0 ≡ 0
equal_none arity other apart = ap (λ (b : Bool). cond {A = ℕ} b 1 0) (ne_eqb arity other apart)

counted_objects : (arities : List ℕ) (arity start : ℕ) (arrangement : List ℕ) → IsPermutationList arrangement → length arities ≤ length arrangement
    → count_by (λ object. arity_of arities object == arity) (turned start arrangement) ≡ count_by (λ x. x == arity) arities + (length arrangement - length arities) * cond (0 == arity) 1 0
counted_objects arities arity start arrangement permutation few =
    sum_by-turned (λ object. cond (arity_of arities object == arity) 1 0) start arrangement
    ∙ sum_by-permutation (λ object. cond (arity_of arities object == arity) 1 0) arrangement permutation
    ∙ sum_upto-list (λ x. cond (x == arity) 1 0) arities (length arrangement) few

-- range by range
counted_arities : (arity : ℕ) (r : ℕ × ℕ) (ranges : List (ℕ × ℕ)) → count_by (λ x. x == arity) (arities_of (r ∷ ranges)) ≡ r.1 * cond (r.0 == arity) 1 0 + count_by (λ x. x == arity) (arities_of ranges)
counted_arities arity r ranges =
    sum_by-append (λ x. cond (x == arity) 1 0) (replicate r.1 r.0) (arities_of ranges)
    ∙ ap (λ (k : ℕ). k + count_by (λ x. x == arity) (arities_of ranges)) (sum_by-replicate (λ x. cond (x == arity) 1 0) r.1 r.0)

counted_yes : (arity : ℕ) (r : ℕ × ℕ) (ranges : List (ℕ × ℕ)) → r.0 ≡ arity → count_by (λ x. x == arity) (arities_of (r ∷ ranges)) ≡ r.1 + count_by (λ x. x == arity) (arities_of ranges)
counted_yes arity r ranges e =
    let a = ap (λ (k : ℕ). r.1 * k) (equal_one r.0 arity e) in
    omega (arith, a, counted_arities arity r ranges)

counted_no : (arity : ℕ) (r : ℕ × ℕ) (ranges : List (ℕ × ℕ)) → (r.0 ≡ arity → ⊥) → count_by (λ x. x == arity) (arities_of (r ∷ ranges)) ≡ count_by (λ x. x == arity) (arities_of ranges)
counted_no arity r ranges apart =
    let a = ap (λ (k : ℕ). r.1 * k) (equal_none r.0 arity apart) in
    omega (arith, a, counted_arities arity r ranges)

none_counted : (arity : ℕ) (ranges : List (ℕ × ℕ)) → ((k : ℕ) → k < length ranges → (range_at ranges k).0 ≡ arity → ⊥) → count_by (λ x. x == arity) (arities_of ranges) ≡ 0
none_counted arity [] other = refl
none_counted arity (r ∷ ranges) other = counted_no arity r ranges (other 0 (omega arith)) ∙ none_counted arity ranges (λ k less. other (suc k) (omega arith))

-- where no other range has the arity
one_counted : (arity k : ℕ) (ranges : List (ℕ × ℕ)) → k < length ranges → (range_at ranges k).0 ≡ arity → ((j : ℕ) → j < length ranges → (j ≡ k → ⊥) → (range_at ranges j).0 ≡ arity → ⊥)
    → count_by (λ x. x == arity) (arities_of ranges) ≡ (range_at ranges k).1
one_counted arity k [] less here other = absurd (omega arith)
one_counted arity zero (r ∷ ranges) less here other =
    let a = counted_yes arity r ranges here in
    let b = none_counted arity ranges (λ j inside. other (suc j) (omega arith) (λ e. absurd (omega arith))) in
    omega (arith, a, b)
one_counted arity (suc k) (r ∷ ranges) less here other =
    counted_no arity r ranges (other 0 (omega arith) (λ e. absurd (omega arith)))
    ∙ one_counted arity k ranges (omega arith) here (λ j inside apart. other (suc j) (omega arith) (λ e. apart (omega arith)))

-- the range of an arity, or there is none
pub find_range : (ranges : List (ℕ × ℕ)) (arity n : ℕ) → ((k : ℕ) × (k < n) × ((range_at ranges k).0 ≡ arity)) ⊎ ((k : ℕ) → k < n → (range_at ranges k).0 ≢ arity)
find_range ranges arity zero = inr (λ k less. absurd (omega arith))
find_range ranges arity (suc n) = elim (cases_eq (range_at ranges n).0 arity) [
  | inl here ↦ inl (n, omega arith, here)
  | inr other ↦ elim (find_range ranges arity n) [
    | inl found ↦ inl (found.0, (let l = found.1 in omega (arith, l)), found.2)
    | inr none ↦ inr (λ k less. elim (cases_eq k n) [
      | inl same ↦ (λ e. other (sym (ap (λ (i : ℕ). (range_at ranges i).0) same) ∙ e))
      | inr before ↦ none k (omega (arith, less, before))
    ])
  ]
]

-- of each range there are its objects, and the others are so many leaf objects
pub record HasObjects (ranges : List (ℕ × ℕ)) (leaves : ℕ) (objects : List ℕ) : Type 0 where
  pub of_range : (k : ℕ) → k < length ranges → count_by (λ object. arity_of (arities_of ranges) object == (range_at ranges k).0) objects ≡ (range_at ranges k).1
  pub of_no_range : (arity : ℕ) → 0 < arity → ((k : ℕ) → k < length ranges → (range_at ranges k).0 ≡ arity → ⊥) → count_by (λ object. arity_of (arities_of ranges) object == arity) objects ≡ 0
  pub of_leaves : count_by (λ object. arity_of (arities_of ranges) object == 0) objects ≡ leaves

-- an arrangement of the objects has them, from wherever it is read
pub arranged_objects : (ranges : List (ℕ × ℕ)) (leaves start : ℕ) (arrangement objects : List ℕ) → AreApart ranges → IsPermutationList arrangement → length arrangement ≡ nodes_of_ranges ranges + leaves
    → objects ≡ turned start arrangement → HasObjects ranges leaves objects
arranged_objects ranges leaves start arrangement objects are permutation long turned_is = record {
  of_range = λ k less.
      let arity : ℕ = (range_at ranges k).0 in
      let some = are.some k less in
      let none = ap (λ (m : ℕ). (length arrangement - length (arities_of ranges)) * m) (equal_none 0 arity (λ e. absurd (omega (arith, e, some)))) in
      let one = one_counted arity k ranges less refl (λ j inside apart e. elim (cases_order j k) [
        | inl same ↦ apart same
        | inr order ↦ elim order [ inl before ↦ are.apart j k before less e | inr after ↦ are.apart k j after inside (sym e) ]
      ]) in
      omega (arith, at arity, none, one);
  of_no_range = λ arity some other.
      let none = ap (λ (m : ℕ). (length arrangement - length (arities_of ranges)) * m) (equal_none 0 arity (λ e. absurd (omega arith))) in
      let zero_is = none_counted arity ranges other in
      omega (arith, at arity, none, zero_is);
  of_leaves =
      let one = ap (λ (m : ℕ). (length arrangement - length (arities_of ranges)) * m) (equal_one 0 0 refl) in
      let zero_is = none_counted 0 ranges (λ k less e. absurd (let some = are.some k less in omega (arith, e, some))) in
      omega (arith, at 0, one, zero_is, long);
} where
  at : (arity : ℕ) → count_by (λ object. arity_of (arities_of ranges) object == arity) objects ≡ count_by (λ x. x == arity) (arities_of ranges) + (length arrangement - length (arities_of ranges)) * cond (0 == arity) 1 0
  at arity =
      ap (λ (xs : List ℕ). count_by (λ object. arity_of (arities_of ranges) object == arity) xs) turned_is
      ∙ counted_objects (arities_of ranges) arity start arrangement permutation (omega (arith, long))

-- the numbers below a bound, as a list
abbrev pub numbers : ℕ → List ℕ
numbers n = range_with_len 0 n

pub numbers_permute : (n : ℕ) → IsPermutationList (numbers n)
numbers_permute n =
    let long = length-range_with_len 0 n in
    record {
      stays = λ k less. (let e = get_or-range_with_len 0 n k 0 (omega (arith, less, long)) in omega (arith, e, less));
      injective = λ j k in_j in_k same.
          let e = get_or-range_with_len 0 n j 0 (omega (arith, in_j, long)) in
          let f = get_or-range_with_len 0 n k 0 (omega (arith, in_k, long)) in
          omega (arith, e, f, same);
    }

-- all objects in their order
pub all_objects : (ranges : List (ℕ × ℕ)) (leaves : ℕ) → AreApart ranges → HasObjects ranges leaves (numbers (nodes_of_ranges ranges + leaves))
all_objects ranges leaves are =
    let n : ℕ = nodes_of_ranges ranges + leaves in
    arranged_objects ranges leaves 0 (numbers n) (numbers n) are (numbers_permute n) (length-range_with_len 0 n) (sym (append-nil (numbers n)))

-- where there is one object more than children
pub arities_long : (ranges : List (ℕ × ℕ)) (leaves : ℕ) → nodes_of_ranges ranges + leaves ≡ suc (sum (arities_of ranges))
    → length (map (arity_of (arities_of ranges)) (numbers (nodes_of_ranges ranges + leaves))) ≡ suc (sum (map (arity_of (arities_of ranges)) (numbers (nodes_of_ranges ranges + leaves))))
arities_long ranges leaves one =
    let n : ℕ = nodes_of_ranges ranges + leaves in
    omega (
      arith,
      one,
      length-map (numbers n) (arity_of (arities_of ranges)),
      length-range_with_len 0 n,
      sum-map (arity_of (arities_of ranges)) (numbers n),
      sum_by-permutation (arity_of (arities_of ranges)) (numbers n) (numbers_permute n),
      sum_upto-list (λ x. x) (arities_of ranges) (length (numbers n)) (omega (arith, length-range_with_len 0 n)),
    )
