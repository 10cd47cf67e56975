-- The objects of ranges with given arities in preorder and given codes by range, and their arrangement.
use Rattle.std.proofs.Common.{◌≡◌, ℕ, ◌+◌, ◌-◌, ◌<◌, ◌≤◌, ◌==◌, Bool, inl, inr, List, [], ◌++◌, length, map, filter, get_or, All, drop, take, refl, ap, ap₂, sym, ◌∙◌, subst, arith, length-drop, take-append-drop, eq-eqb, eqb-true, Contains}
use Rattle.std.specs.Prelude.{count_by, slice_index}
use Rattle.std.specs.List.Sorted.{IsStrictlyIncreasing}
use Rattle.std.proofs.lemmas.Bool.{cases_eq}
use Rattle.std.proofs.lemmas.List.{length-map, get_or-map, get_or_default, take_at, drop_at}
use Rattle.std.proofs.lemmas.List.Elements.{All-map, filter_passes}
use Rattle.std.proofs.lemmas.List.FromFn.{length-range_with_len, get_or-range_with_len}
use Rattle.std.proofs.lemmas.List.Kept.{AllPairs-from_increasing, IsStrictlyIncreasing-filter}
use Rattle.std.proofs.lemmas.List.Sums.{length-filter}
use Rattle.pm_perm.proofs.Contained.{contains_at, is_at}
use Rattle.pm_perm.specs.Permutation.{IsPermutationList}
use Rattle.pm_perm.proofs.InverseLemmas.{standing_permutes}
use Rattle.pm_perm.proofs.Permutations.{reached}
use Rattle.pm_lehmer.specs.Lehmer.{code_of, IsArrangementOf}
use Rattle.pm_lehmer.proofs.Arranged.{has_arrangement, length-arrangement}
use Rattle.pm_lehmer.proofs.Rising.{Rises, code_of-rising}
use Rattle.pm_words.specs.Word.{turned}
use Rattle.pm_words.proofs.Heights.{length-turned}
use Rattle.pm_objects.specs.Codes.{AreObjectsOf, codes_by_range}
use Rattle.pm_objects.specs.Objects.{AreApart, range_at, arity_of, arities_of, nodes_of_ranges, objects_of}
use Rattle.pm_objects.proofs.ObjectCounts.{find_range, numbers, all_objects}
use Rattle.pm_objects.proofs.RangeCodes.{HaveCodes, IsCodeOfLength, code_from_valid, flat_agree}
use Rattle.pm_objects.proofs.SameCounts.{IsAsMany, counted_keys}
use Rattle.pm_objects.proofs.Sorting.{IsSorting, sorting_exists, stands_kept, stands_before, stands_turned}

-- a list that is turned on to its end is as it was
pub turn_on : (start : ℕ) (xs : List ℕ) → start ≤ length xs → turned start (turned (length xs - start) xs) ≡ xs
turn_on start xs few =
    let long : length (drop (length xs - start) xs) ≡ start = (let l = length-drop (length xs - start) xs in omega (arith, l, few)) in
    ap₂ (λ (us vs : List ℕ). us ++ vs) (drop_at (drop (length xs - start) xs) (take (length xs - start) xs) start long) (take_at (drop (length xs - start) xs) (take (length xs - start) xs) start long)
    ∙ take-append-drop (length xs - start) xs

pub turned_permutes : (start : ℕ) (xs : List ℕ) → IsPermutationList xs → start ≤ length xs → IsPermutationList (turned start xs)
turned_permutes start xs permute few =
    standing_permutes (turned start xs)
    (λ n inside.
    let at = reached (slice_index xs) (length xs) n permute (let l = length-turned start xs few in omega (arith, inside, l)) in
    stands_turned start xs n (contains_at _ _ at.from at.below at.value))

numbers_rise : (n : ℕ) → IsStrictlyIncreasing (numbers n)
numbers_rise n k within =
    let long = length-range_with_len 0 n in
    let a = get_or-range_with_len 0 n k 0 (omega (arith, within, long)) in
    let b = get_or-range_with_len 0 n (k + 1) 0 (omega (arith, within, long)) in
    omega (arith, a, b)

kept_rise : (p : ℕ → Bool) (xs : List ℕ) → IsStrictlyIncreasing xs → Rises (length (filter p xs)) (slice_index (filter p xs))
kept_rise p xs rise = record { rises = λ low high before within. AllPairs-from_increasing (filter p xs) (IsStrictlyIncreasing-filter p xs rise) low high 0 before within }

-- objects in preorder with these arity degrees and codes, and their arrangement
pub record AreFound (ranges : List (ℕ × ℕ)) (leaves : ℕ) (arities : List ℕ) (start : ℕ) (codes : List ℕ) : Type 0 where
  pub objects : List ℕ
  pub arrangement : List ℕ
  pub arities_are : map (arity_of (arities_of ranges)) objects ≡ arities
  pub codes_are : codes_by_range ranges objects ≡ codes
  pub long : length objects ≡ nodes_of_ranges ranges + leaves
  pub permute : IsPermutationList objects
  pub arranged : IsPermutationList arrangement
  pub arranged_long : length arrangement ≡ nodes_of_ranges ranges + leaves
  pub turned_is : objects ≡ turned start arrangement

-- turned back by the start, objects are their arrangement
abbrev pub found_of_objects : (ranges : List (ℕ × ℕ)) (leaves : ℕ) (arities : List ℕ) (start : ℕ) (codes objects : List ℕ) → AreObjectsOf ranges arities codes objects → length objects ≡ nodes_of_ranges ranges + leaves
    → start < nodes_of_ranges ranges + leaves → AreFound ranges leaves arities start codes
found_of_objects ranges leaves arities start codes objects are long less = record {
  objects = objects;
  arrangement = turned (length objects - start) objects;
  arities_are = are.arities_are;
  codes_are = are.codes_are;
  long = long;
  permute = are.permute;
  arranged = turned_permutes (length objects - start) objects are.permute (omega arith);
  arranged_long = length-turned (length objects - start) objects (omega arith) ∙ long;
  turned_is = sym (turn_on start objects (omega (arith, less, long)));
}

module _ (ranges : List (ℕ × ℕ)) (leaves : ℕ) (are : AreApart ranges) (arities : List ℕ) (many : IsAsMany arities (map (arity_of (arities_of ranges)) (numbers (nodes_of_ranges ranges + leaves))))
    (codes : List ℕ) (have : HaveCodes ranges leaves codes) where
  -- the objects of a arity degree in rising order
  block : ℕ → List ℕ
  block arity = objects_of (arities_of ranges) arity (numbers (nodes_of_ranges ranges + leaves))

  block_is : (arity : ℕ) → block arity ≡ objects_of (arities_of ranges) arity (numbers (nodes_of_ranges ranges + leaves))
  unfolding block
  block_is arity = refl

  block_long : (arity : ℕ) → length (block arity) ≡ count_by (λ object. arity_of (arities_of ranges) object == arity) (numbers (nodes_of_ranges ranges + leaves))
  unfolding block
  block_long arity = length-filter (λ object. arity_of (arities_of ranges) object == arity) (numbers (nodes_of_ranges ranges + leaves))

  block_rises : (arity : ℕ) → Rises (length (block arity)) (slice_index (block arity))
  unfolding block
  block_rises arity = kept_rise (λ object. arity_of (arities_of ranges) object == arity) (numbers (nodes_of_ranges ranges + leaves)) (numbers_rise (nodes_of_ranges ranges + leaves))

  block_arities : (arity : ℕ) → All (λ object. arity_of (arities_of ranges) object ≡ arity) (block arity)
  unfolding block
  block_arities arity = λ k d less. eqb-true (arity_of (arities_of ranges) (get_or (objects_of (arities_of ranges) arity (numbers (nodes_of_ranges ranges + leaves))) k d)) arity
      (filter_passes (λ object. arity_of (arities_of ranges) object == arity) (numbers (nodes_of_ranges ranges + leaves)) k d less)

  -- the code of the arity degree is one, of as many objects
  code_right : (arity : ℕ) → IsCodeOfLength (length (block arity)) (have.code arity)
  code_right arity = elim (cases_eq arity 0) [
    | inl leaf ↦
        let counted : length (block 0) ≡ leaves = block_long 0 ∙ (all_objects ranges leaves are).of_leaves in
        subst (λ (h : ℕ). IsCodeOfLength (length (block h)) (have.code h)) (sym leaf)
        (subst (λ (n : ℕ). IsCodeOfLength n (have.code 0)) (sym counted) (code_from_valid leaves (have.code 0) have.of_leaves))
    | inr some ↦ elim (find_range ranges arity (length ranges)) [
      | inl found ↦
          let here : (range_at ranges found.0).0 ≡ arity = found.2 in
          let counted : length (block ((range_at ranges found.0).0)) ≡ (range_at ranges found.0).1 = block_long ((range_at ranges found.0).0) ∙ (all_objects ranges leaves are).of_range found.0 found.1 in
          subst (λ (h : ℕ). IsCodeOfLength (length (block h)) (have.code h)) here
          (subst (λ (n : ℕ). IsCodeOfLength n (have.code ((range_at ranges found.0).0))) (sym counted)
          (code_from_valid (range_at ranges found.0).1 (have.code ((range_at ranges found.0).0)) (have.of_range found.0 found.1)))
      | inr none ↦
          let counted : length (block arity) ≡ 0 = block_long arity ∙ (all_objects ranges leaves are).of_no_range arity (omega (arith, some)) none in
          let empty : have.code arity ≡ [] = have.of_others arity (omega (arith, some)) none in
          subst (λ (n : ℕ). IsCodeOfLength n (have.code arity)) (sym counted)
          (subst (IsCodeOfLength 0) (sym empty) (record { long = refl; is_code = record { below = λ k less. absurd (omega arith) } }))
    ]
  ]

  arranging : (arity : ℕ) → (order : List ℕ) × IsArrangementOf (have.code arity) order
  arranging arity = has_arrangement (have.code arity) (code_right arity).is_code

  order : ℕ → List ℕ
  order arity = (arranging arity).0

  order_is : (arity : ℕ) → IsArrangementOf (have.code arity) (order arity)
  unfolding order
  order_is arity = (arranging arity).1

  order_long : (arity : ℕ) → length (order arity) ≡ length (block arity)
  order_long arity = length-arrangement (have.code arity) (order arity) (order_is arity) ∙ (code_right arity).long

  -- the objects of a arity degree in the order that the code says
  list : ℕ → List ℕ
  list arity = map (slice_index (block arity)) (order arity)

  list_is : (arity : ℕ) → list arity ≡ map (slice_index (block arity)) (order arity)
  unfolding list
  list_is arity = refl

  order_below : (arity : ℕ) → All (λ place. place < length (block arity)) (order arity)
  order_below arity = λ k d less.
      let low = (order_is arity).is_permutation.stays k less in
      let same = get_or_default (order arity) k d 0 less in
      omega (arith, low, same, order_long arity)

  list_codes : (arity : ℕ) → code_of (list arity) ≡ have.code arity
  list_codes arity = ap code_of (list_is arity) ∙ code_of-rising (length (block arity)) (slice_index (block arity)) (order arity) (block_rises arity) (order_below arity) ∙ (order_is arity).has_code

  list_long : (arity : ℕ) → length (list arity) ≡ count_by (λ y. y == arity) arities
  list_long arity =
      ap length (list_is arity) ∙ length-map (order arity) (slice_index (block arity)) ∙ order_long arity ∙ block_long arity
      ∙ sym (many.each arity ∙ counted_keys (arity_of (arities_of ranges)) arity (numbers (nodes_of_ranges ranges + leaves)))

  list_arities : (arity : ℕ) → All (λ object. arity_of (arities_of ranges) object ≡ arity) (list arity)
  list_arities arity =
      subst (λ (objects : List ℕ). All (λ object. arity_of (arities_of ranges) object ≡ arity) objects) (sym (list_is arity))
      (All-map (λ object. arity_of (arities_of ranges) object ≡ arity) (slice_index (block arity)) (order arity) (λ k d less. block_arities arity (get_or (order arity) k d) 0 (order_below arity k d less)))

  sorted : (objects : List ℕ) × IsSorting (arity_of (arities_of ranges)) arities list objects
  sorted = sorting_exists (arity_of (arities_of ranges)) arities list list_long list_arities

  -- each object stands in the list of its arity degree
  in_block : (object : ℕ) → object < nodes_of_ranges ranges + leaves → Contains (block (arity_of (arities_of ranges) object)) object
  unfolding block
  in_block object less =
      stands_kept (λ o. arity_of (arities_of ranges) o == arity_of (arities_of ranges) object) (numbers (nodes_of_ranges ranges + leaves)) object
      (contains_at _ _ object (let long = length-range_with_len 0 (nodes_of_ranges ranges + leaves) in omega (arith, less, long)) (let e = get_or-range_with_len 0 (nodes_of_ranges ranges + leaves) object 0 less in omega (arith, e)))
      (eq-eqb (arity_of (arities_of ranges) object) (arity_of (arities_of ranges) object) refl)

  in_list : (arity object : ℕ) → Contains (block arity) object → Contains (list arity) object
  in_list arity object stands =
      let at = reached (slice_index (order arity)) (length (order arity)) stands.0 (order_is arity).is_permutation (let w = stands.1 in omega (arith, w, order_long arity)) in
      let here = (is_at _ _ stands) in
      subst (λ (objects : List ℕ). Contains objects object) (sym (list_is arity)) (contains_at _ _ at.from (let long = length-map (order arity) (slice_index (block arity)) in let b = at.below in omega (arith, long, b)) (get_or-map (slice_index (block arity)) (order arity) at.from 0 0 at.below ∙ ap (slice_index (block arity)) at.value ∙ here))

  stands : (object : ℕ) → object < nodes_of_ranges ranges + leaves → Contains sorted.0 object
  stands object less =
      stands_before (λ o. arity_of (arities_of ranges) o == arity_of (arities_of ranges) object) sorted.0 object
      (subst (λ (objects : List ℕ). Contains objects object) (sym (sorted.1.lists_are (arity_of (arities_of ranges) object))) (in_list (arity_of (arities_of ranges) object) object (in_block object less)))

  sorted_long : length sorted.0 ≡ nodes_of_ranges ranges + leaves
  sorted_long =
      sym (length-map sorted.0 (arity_of (arities_of ranges))) ∙ ap length sorted.1.keys_are ∙ many.lengths
      ∙ length-map (numbers (nodes_of_ranges ranges + leaves)) (arity_of (arities_of ranges)) ∙ length-range_with_len 0 (nodes_of_ranges ranges + leaves)

  codes_sorted : codes_by_range ranges sorted.0 ≡ codes
  codes_sorted =
      ap₂ (λ (xs ys : List ℕ). xs ++ ys)
      (flat_agree (λ p. code_of (objects_of (arities_of ranges) (p.0) sorted.0)) (λ p. have.code (p.0)) ranges
      (λ k less. ap code_of (sorted.1.lists_are ((range_at ranges k).0)) ∙ list_codes ((range_at ranges k).0)))
      (ap code_of (sorted.1.lists_are 0) ∙ list_codes 0)
      ∙ have.whole

  objects_are : AreObjectsOf ranges arities codes sorted.0
  objects_are = record {
    permute = standing_permutes sorted.0 (λ object inside. stands object (omega (arith, inside, sorted_long)));
    arities_are = sorted.1.keys_are;
    codes_are = codes_sorted;
  }

  pub some_objects : (objects : List ℕ) × AreObjectsOf ranges arities codes objects
  some_objects = (sorted.0, objects_are)

  pub objects_found : (start : ℕ) → start < nodes_of_ranges ranges + leaves → AreFound ranges leaves arities start codes
  objects_found start less = found_of_objects ranges leaves arities start codes sorted.0 objects_are sorted_long less
