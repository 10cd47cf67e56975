-- The objects of a profile: half degrees, their sum and number, the word of an arrangement, and how many objects have which
-- half degree.
use Rattle.std.proofs.Common.{◌≡◌, ℕ, zero, suc, ◌+◌, ◌*◌, ◌/◌, ◌%◌, ◌<◌, ◌≤◌, ◌==◌, inl, inr, List, [], ◌∷◌, length, replicate, take, take_all, refl, ap, sym, ◌∙◌, subst, arith, length-append}
use Rattle.std.specs.Prelude.{All, sum, count_by}
use Rattle.std.specs.List.{sum_by}
use Rattle.std.proofs.lemmas.Bool.{cases_eq, cases_order}
use Rattle.std.proofs.lemmas.List.{length-map, length-replicate}
use Rattle.std.proofs.lemmas.List.Elements.{All-append, All-replicate, All-nil, All-head, All-tail}
use Rattle.std.proofs.lemmas.List.Folds.{sum_by-replicate}
use Rattle.std.proofs.lemmas.List.Sums.{sum_by-append, sum_by-cons, sum_by_more_le}
use Rattle.pm_limits.specs.declared.TheConstants.{MAX_EDGES}
use Rattle.pm_trees.specs.Pairs.{ArePairs, IsProfile, degree_sum, edges_of, pair_at}
use Rattle.pm_trees.specs.BudPattern.{IsHalfDegree}
use Rattle.pm_objects.specs.Objects.{AreApart, range_at, arity_of}
use Rattle.pm_objects.proofs.ObjectCounts.{HasObjects as HaveRanges}
use Rattle.pm_euler.specs.Objects.{halves_of, nodes_of_profile, leaves_of_profile, ranges_of}

-- half of the degree of a pair
pub half_degree_of : (pairs : List (ℕ × ℕ)) (k : ℕ) → ArePairs pairs → k < length pairs → IsHalfDegree ((pair_at pairs k).0 / 2)
half_degree_of pairs k are less = let r = are.right k less in record { some = omega (arith, r.some); few = omega (arith, r.few) }

-- each half degree is one that a node may have
halves_each : (pairs : List (ℕ × ℕ)) → ((k : ℕ) → k < length pairs → IsHalfDegree ((pair_at pairs k).0 / 2)) → All IsHalfDegree (halves_of pairs)
halves_each [] each = All-nil IsHalfDegree
halves_each (p ∷ pairs) each =
    All-append IsHalfDegree (replicate p.1 (p.0 / 2)) (halves_of pairs) (All-replicate IsHalfDegree p.1 (p.0 / 2) (each 0 (omega arith)))
    (halves_each pairs (λ k less. each (suc k) (omega arith)))

pub halves_are : (pairs : List (ℕ × ℕ)) → IsProfile pairs → All IsHalfDegree (halves_of pairs)
halves_are pairs is = halves_each pairs (λ k less. half_degree_of pairs k is.are_pairs less)

-- a sum over the half degrees, pair by pair
pub sum_by-halves : (f : ℕ → ℕ) (pairs : List (ℕ × ℕ)) → sum_by f (halves_of pairs) ≡ sum_by (λ (p : ℕ × ℕ). p.1 * f (p.0 / 2)) pairs
sum_by-halves f [] = refl
sum_by-halves f (p ∷ pairs) =
    omega (
      arith,
      sum_by-append f (replicate p.1 (p.0 / 2)) (halves_of pairs),
      sum_by-replicate f p.1 (p.0 / 2),
      sum_by-halves f pairs,
      sum_by-cons (λ (p : ℕ × ℕ). p.1 * f (p.0 / 2)) p pairs,
    )

-- the degrees are twice the half degrees
degrees_twice : (pairs : List (ℕ × ℕ)) → ((k : ℕ) → k < length pairs → (pair_at pairs k).0 % 2 ≡ 0) → degree_sum pairs ≡ 2 * sum_by (λ (p : ℕ × ℕ). p.1 * (p.0 / 2)) pairs
degrees_twice [] even = refl
degrees_twice (p ∷ pairs) even =
    let here : p.0 ≡ 2 * (p.0 / 2) = (let e : p.0 % 2 ≡ 0 = even 0 (omega arith) in omega arith) in
    let product : p.0 * p.1 ≡ 2 * (p.0 / 2) * p.1 = ap (λ (d : ℕ). d * p.1) here in
    omega (
      arith,
      product,
      degrees_twice pairs (λ k less. even (suc k) (omega arith)),
      sum_by-cons (λ (p : ℕ × ℕ). p.0 * p.1) p pairs,
      sum_by-cons (λ (p : ℕ × ℕ). p.1 * (p.0 / 2)) p pairs,
    )

-- the edges, pair by pair
pub edges_by_halves : (pairs : List (ℕ × ℕ)) → IsProfile pairs → sum_by (λ (p : ℕ × ℕ). p.1 * (p.0 / 2)) pairs ≡ edges_of pairs
edges_by_halves pairs is = let twice = degrees_twice pairs (λ k less. (is.are_pairs.right k less).even) in omega (arith, twice)

pub halves_sum : (pairs : List (ℕ × ℕ)) → IsProfile pairs → sum (halves_of pairs) ≡ edges_of pairs
halves_sum pairs is = sum_by-halves (λ x. x) pairs ∙ edges_by_halves pairs is

-- the nodes, pair by pair
pub nodes_by_pairs : (pairs : List (ℕ × ℕ)) → nodes_of_profile pairs ≡ sum_by (λ (p : ℕ × ℕ). p.1) pairs
nodes_by_pairs [] = refl
nodes_by_pairs (p ∷ pairs) =
    omega (arith, length-append (replicate p.1 (p.0 / 2)) (halves_of pairs), length-replicate p.1 (p.0 / 2), nodes_by_pairs pairs, sum_by-cons (λ (p : ℕ × ℕ). p.1) p pairs)

length-le-sum : (halves : List ℕ) → All IsHalfDegree halves → length halves ≤ sum halves
length-le-sum [] are = omega arith
length-le-sum (half ∷ halves) are =
    let here = All-head IsHalfDegree half halves are in
    omega (arith, here.some, length-le-sum halves (All-tail IsHalfDegree half halves are), sum_by-cons (λ x. x) half halves)

pub halves_few : (pairs : List (ℕ × ℕ)) → IsProfile pairs → nodes_of_profile pairs ≤ edges_of pairs
halves_few pairs is = omega (arith, length-le-sum (halves_of pairs) (halves_are pairs is), halves_sum pairs is)

some_nodes : (pairs : List (ℕ × ℕ)) → 0 < length pairs → 0 < (pair_at pairs 0).1 → 0 < nodes_of_profile pairs
some_nodes [] some counted = absurd (omega arith)
some_nodes (p ∷ pairs) some counted = omega (arith, length-append (replicate p.1 (p.0 / 2)) (halves_of pairs), length-replicate p.1 (p.0 / 2))

pub halves_some : (pairs : List (ℕ × ℕ)) → IsProfile pairs → 0 < nodes_of_profile pairs
halves_some pairs is = some_nodes pairs is.are_pairs.some (is.are_pairs.right 0 is.are_pairs.some).counted

-- degrees rise
degrees_rise : (pairs : List (ℕ × ℕ)) (j k : ℕ) → ArePairs pairs → j < k → k < length pairs → (pair_at pairs j).0 < (pair_at pairs k).0
degrees_rise pairs j zero are before less = absurd (omega arith)
degrees_rise pairs j (suc k) are before less =
    let r = are.right (suc k) less in
    elim (cases_eq j k) [
      | inl same ↦ (let e = ap (λ (i : ℕ). (pair_at pairs i).0) same in omega (arith, e, r.rising))
      | inr apart ↦ (let h = degrees_rise pairs j k are (omega arith) (omega arith) in omega (arith, h, r.rising))
    ]

pub half_differs : (pairs : List (ℕ × ℕ)) (j k : ℕ) → ArePairs pairs → j < length pairs → k < length pairs → (j ≡ k → ⊥) → (pair_at pairs j).0 / 2 ≡ (pair_at pairs k).0 / 2 → ⊥
half_differs pairs j k are in_j in_k apart same =
    let a = are.right j in_j in
    let b = are.right k in_k in
    elim (cases_order j k) [
      | inl e ↦ apart e
      | inr order ↦ elim order [
        | inl less ↦ (let h = degrees_rise pairs j k are less in_k in omega (arith, h, same, a.even, b.even))
        | inr more ↦ (let h = degrees_rise pairs k j are more in_j in omega (arith, h, same, a.even, b.even))
      ]
    ]

-- of each degree of the profile there are as many objects as nodes, and the others are leaf objects
pub record HasObjects (pairs : List (ℕ × ℕ)) (objects : List ℕ) : Type 0 where
  pub of_pair : (k : ℕ) → k < length pairs → count_by (λ object. arity_of (halves_of pairs) object == (pair_at pairs k).0 / 2) objects ≡ (pair_at pairs k).1
  pub of_no_pair : (half : ℕ) → 0 < half → ((k : ℕ) → k < length pairs → (pair_at pairs k).0 ≡ 2 * half → ⊥) → count_by (λ object. arity_of (halves_of pairs) object == half) objects ≡ 0
  pub of_leaves : count_by (λ object. arity_of (halves_of pairs) object == 0) objects ≡ leaves_of_profile pairs

-- the range of a pair
pub range_of_pair : (pairs : List (ℕ × ℕ)) (k : ℕ) → range_at (ranges_of pairs) k ≡ ((pair_at pairs k).0 / 2, (pair_at pairs k).1)
range_of_pair [] k = refl
range_of_pair (p ∷ pairs) zero = refl
range_of_pair (p ∷ pairs) (suc k) = range_of_pair pairs k

many_ranges : (pairs : List (ℕ × ℕ)) → length (ranges_of pairs) ≡ length pairs
many_ranges pairs = length-map pairs (λ (p : ℕ × ℕ). (p.0 / 2, p.1))

pub profile_apart : (pairs : List (ℕ × ℕ)) → IsProfile pairs → AreApart (ranges_of pairs)
profile_apart pairs is = record {
  some = λ k less.
      let s = (is.are_pairs.right k (omega (arith, less, many_ranges pairs))).some in
      let r = ap (λ (r : ℕ × ℕ). r.0) (range_of_pair pairs k) in
      omega (arith, s, r);
  apart = λ j k before less e.
      half_differs pairs j k is.are_pairs (omega (arith, before, less, many_ranges pairs)) (omega (arith, less, many_ranges pairs)) (λ same. omega (arith, same, before))
      (ap (λ (r : ℕ × ℕ). r.0) (sym (range_of_pair pairs j)) ∙ e ∙ ap (λ (r : ℕ × ℕ). r.0) (range_of_pair pairs k));
}

-- the objects are one more than the edges
pub all_of_profile : (pairs : List (ℕ × ℕ)) → IsProfile pairs → nodes_of_profile pairs + leaves_of_profile pairs ≡ suc (edges_of pairs)
all_of_profile pairs is = omega (arith, halves_few pairs is)

pub one_more_object : (pairs : List (ℕ × ℕ)) → IsProfile pairs → suc (edges_of pairs) ≡ sum (halves_of pairs) + 1
one_more_object pairs is = omega (arith, halves_sum pairs is)

-- what ranges have is what the pairs have
pub profile_has : (pairs : List (ℕ × ℕ)) (objects : List ℕ) → IsProfile pairs → HaveRanges (ranges_of pairs) (leaves_of_profile pairs) objects → HasObjects pairs objects
profile_has pairs objects is has = record {
  of_pair = λ k less. subst (λ (r : ℕ × ℕ). count_by (λ object. arity_of (halves_of pairs) object == r.0) objects ≡ r.1) (range_of_pair pairs k) (has.of_range k (omega (arith, less, many_ranges pairs)));
  of_no_pair = λ half some other. has.of_no_range half some (λ k less e.
      let inside : k < length pairs = omega (arith, less, many_ranges pairs) in
      let r = ap (λ (r : ℕ × ℕ). r.0) (range_of_pair pairs k) in
      let even = (is.are_pairs.right k inside).even in
      other k inside (omega (arith, e, r, even)));
  of_leaves = has.of_leaves;
}

-- what the walk along the pairs keeps and ends with
pub nodes_within : (pairs : List (ℕ × ℕ)) (i : ℕ) → IsProfile pairs → i < length pairs → sum_by (λ (p : ℕ × ℕ). p.1) (take i pairs) + (pair_at pairs i).1 ≤ MAX_EDGES
nodes_within pairs i is less = omega (arith, sum_by_more_le (λ (p : ℕ × ℕ). p.1) pairs i (0, 0) less, nodes_by_pairs pairs, halves_few pairs is, is.few)

pub nodes_counted : (pairs : List (ℕ × ℕ)) (i nodes : ℕ) → length pairs ≤ i → nodes ≡ sum_by (λ (p : ℕ × ℕ). p.1) (take i pairs) → nodes ≡ nodes_of_profile pairs
nodes_counted pairs i nodes past e = e ∙ ap (sum_by (λ (p : ℕ × ℕ). p.1)) (take_all i pairs past) ∙ sym (nodes_by_pairs pairs)
