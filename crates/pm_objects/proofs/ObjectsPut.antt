-- The objects that arities and codes tell, put range by range at their places.
use Rattle.std.proofs.Common.{◌≡◌, ℕ, ◌+◌, ◌-◌, ◌<◌, ◌≤◌, ◌==◌, inl, inr, List, length, map, take, drop, refl, ap, ap₂, sym, ◌∙◌, subst, arith, append-nil, take_all, length-drop}
use Rattle.std.specs.Prelude.{count_by, slice_index}
use Rattle.std.proofs.lemmas.Bool.{cases_eq}
use Rattle.std.proofs.lemmas.List.{length-map, get_or-map, ext_get_or}
use Rattle.std.proofs.lemmas.List.Sums.{length-filter, sum_by_more, sum_by_more_le}
use Rattle.pm_lehmer.specs.Lehmer.{code_of, IsArrangementCode, IsArrangementOf}
use Rattle.pm_lehmer.proofs.Arranged.{code_of-is_code, length-code_of}
use Rattle.pm_objects.specs.Codes.{AreObjectsOf}
use Rattle.pm_objects.specs.Objects.{AreApart, range_at, arity_of, arities_of, nodes_of_ranges, objects_of}
use Rattle.pm_objects.proofs.ObjectBlocks.{nodes_before, arity_here, arity_low, arity_found, leaf_here, leaf_low, code_at, code_behind, told_by_code}
use Rattle.pm_objects.proofs.ObjectCounts.{HasObjects, arranged_objects, nodes_by_ranges, nodes_counted}
use Rattle.pm_objects.proofs.ObjectPlaces.{with_arity}
use Rattle.pm_objects.proofs.SameCounts.{counted_keys}
use Rattle.pm_objects.proofs.Sorting.{entry_with_key}

-- the objects of the ranges before one stand at their places
pub record ArePutBefore (ranges : List (ℕ × ℕ)) (arities objects put : List ℕ) (first k : ℕ) : Type 0 where
  pub first_is : first ≡ nodes_before ranges k
  pub as_long : length put ≡ length arities
  pub same : (j : ℕ) → j < k → (place : ℕ) → place < length arities → slice_index arities place ≡ (range_at ranges j).0 → slice_index put place ≡ slice_index objects place

pub put_before_all : (ranges : List (ℕ × ℕ)) (arities objects put : List ℕ) → length put ≡ length arities → ArePutBefore ranges arities objects put 0 0
put_before_all ranges arities objects put long = record { first_is = refl; as_long = long; same = λ j before. absurd (omega (arith, before)) }

-- as many objects as there are arities
pub objects_many : (ranges : List (ℕ × ℕ)) (arities codes objects : List ℕ) → AreObjectsOf ranges arities codes objects → length objects ≡ length arities
objects_many ranges arities codes objects read = sym (length-map objects (arity_of (arities_of ranges))) ∙ ap length read.arities_are

pub objects_total : (ranges : List (ℕ × ℕ)) (arities codes objects : List ℕ) → AreObjectsOf ranges arities codes objects → nodes_of_ranges ranges ≤ length arities
    → length objects ≡ nodes_of_ranges ranges + (length arities - nodes_of_ranges ranges)
objects_total ranges arities codes objects read few = let many = objects_many ranges arities codes objects read in omega (arith, many, few)

module _ (ranges : List (ℕ × ℕ)) (leaves : ℕ) (arities codes objects : List ℕ) (are : AreApart ranges) (read : AreObjectsOf ranges arities codes objects) (long : length objects ≡ nodes_of_ranges ranges + leaves) where
  has : HasObjects ranges leaves objects
  has = arranged_objects ranges leaves 0 objects objects are read.permute long (sym (append-nil objects))

  as_many : length objects ≡ length arities
  as_many = objects_many ranges arities codes objects read

  -- the code of the objects of an arity, which is as long as their number
  abbrev pub arity_code : ℕ → List ℕ
  arity_code arity = code_of (objects_of (arities_of ranges) arity objects)

  arity_code_long : (arity : ℕ) → length (arity_code arity) ≡ count_by (λ object. arity_of (arities_of ranges) object == arity) objects
  arity_code_long arity = length-code_of (objects_of (arities_of ranges) arity objects) ∙ length-filter (λ object. arity_of (arities_of ranges) object == arity) objects

  range_code_long : (k : ℕ) → k < length ranges → length (arity_code (range_at ranges k).0) ≡ (range_at ranges k).1
  range_code_long k less = arity_code_long (range_at ranges k).0 ∙ has.of_range k less

  leaf_code_long : length (arity_code 0) ≡ leaves
  leaf_code_long = arity_code_long 0 ∙ has.of_leaves

  -- where the codes are
  pub range_slice : (first k : ℕ) → first ≡ nodes_before ranges k → k < length ranges → take (first + (range_at ranges k).1 - first) (drop first codes) ≡ arity_code (range_at ranges k).0
  range_slice first k first_is less =
      let many : first + (range_at ranges k).1 - first ≡ (range_at ranges k).1 = omega arith in
      ap₂ (λ (m n : ℕ). take m (drop n codes)) many first_is
      ∙ ap (λ (cs : List ℕ). take (range_at ranges k).1 (drop (nodes_before ranges k) cs)) (sym read.codes_are)
      ∙ code_at (λ (r : ℕ × ℕ). arity_code r.0) ranges (arity_code 0) k range_code_long less

  behind_nodes : drop (nodes_of_ranges ranges) codes ≡ arity_code 0
  behind_nodes = ap (drop (nodes_of_ranges ranges)) (sym read.codes_are) ∙ code_behind (λ (r : ℕ × ℕ). arity_code r.0) ranges (arity_code 0) range_code_long

  pub leaf_slice : (first : ℕ) → first ≡ nodes_of_ranges ranges → take (length codes - first) (drop first codes) ≡ arity_code 0
  leaf_slice first first_is = take_all (length codes - first) (drop first codes) (omega (arith, length-drop first codes)) ∙ ap (λ (n : ℕ). drop n codes) first_is ∙ behind_nodes

  pub range_slice_long : (first k : ℕ) → first ≡ nodes_before ranges k → k < length ranges → length (take (first + (range_at ranges k).1 - first) (drop first codes)) ≡ (range_at ranges k).1
  range_slice_long first k first_is less = ap length (range_slice first k first_is less) ∙ range_code_long k less

  pub leaf_slice_long : (first : ℕ) → first ≡ nodes_of_ranges ranges → length (take (length codes - first) (drop first codes)) ≡ leaves
  leaf_slice_long first first_is = ap length (leaf_slice first first_is) ∙ leaf_code_long

  pub range_slice_code : (first k : ℕ) → first ≡ nodes_before ranges k → k < length ranges → IsArrangementCode (take (first + (range_at ranges k).1 - first) (drop first codes))
  range_slice_code first k first_is less = subst IsArrangementCode (sym (range_slice first k first_is less)) (code_of-is_code (objects_of (arities_of ranges) (range_at ranges k).0 objects))

  pub leaf_slice_code : (first : ℕ) → first ≡ nodes_of_ranges ranges → IsArrangementCode (take (length codes - first) (drop first codes))
  leaf_slice_code first first_is = subst IsArrangementCode (sym (leaf_slice first first_is)) (code_of-is_code (objects_of (arities_of ranges) 0 objects))

  -- the nodes of the ranges up to one
  pub before_few : (k : ℕ) → k < length ranges → nodes_before ranges k + (range_at ranges k).1 ≤ nodes_of_ranges ranges
  before_few k less = omega (arith, sum_by_more_le (λ (p : ℕ × ℕ). p.1) ranges k (0, 0) less, nodes_by_ranges ranges)

  -- what the codes tell
  range_list : (first k : ℕ) (list : List ℕ) → first ≡ nodes_before ranges k → k < length ranges
      → ((order : List ℕ) → IsArrangementOf (take (first + (range_at ranges k).1 - first) (drop first codes)) order → list ≡ map (λ number. first + number) order) → list ≡ objects_of (arities_of ranges) (range_at ranges k).0 objects
  range_list first k list first_is less each =
      told_by_code (arities_of ranges) objects (range_at ranges k).0 (nodes_before ranges k) (range_at ranges k).1 read.permute (let b = before_few k less in omega (arith, b, long))
      (λ object low high. arity_here ranges k object less low high) (λ object e. arity_low ranges k object are less e) (has.of_range k less) list
      (λ order arranged. each order (subst (λ (c : List ℕ). IsArrangementOf c order) (sym (range_slice first k first_is less)) arranged) ∙ ap (λ (f : ℕ). map (λ number. f + number) order) first_is)

  leaf_list : (first : ℕ) (list : List ℕ) → first ≡ nodes_of_ranges ranges
      → ((order : List ℕ) → IsArrangementOf (take (length codes - first) (drop first codes)) order → list ≡ map (λ number. first + number) order) → list ≡ objects_of (arities_of ranges) 0 objects
  leaf_list first list first_is each =
      told_by_code (arities_of ranges) objects 0 (nodes_of_ranges ranges) leaves read.permute (omega (arith, long))
      (λ object low high. leaf_here ranges object low) (λ object e. leaf_low ranges object are e) has.of_leaves list
      (λ order arranged. each order (subst (λ (c : List ℕ). IsArrangementOf c order) (sym (leaf_slice first first_is)) arranged) ∙ ap (λ (f : ℕ). map (λ number. f + number) order) first_is)

  -- as many arities as objects of an arity
  arities_many : (arity : ℕ) → with_arity arity arities ≡ count_by (λ object. arity_of (arities_of ranges) object == arity) objects
  arities_many arity = ap (count_by (λ y. y == arity)) (sym read.arities_are) ∙ counted_keys (arity_of (arities_of ranges)) arity objects

  pub range_arities : (k : ℕ) → k < length ranges → with_arity (range_at ranges k).0 arities ≡ (range_at ranges k).1
  range_arities k less = arities_many (range_at ranges k).0 ∙ has.of_range k less

  pub leaf_arities : with_arity 0 arities ≡ leaves
  leaf_arities = arities_many 0 ∙ has.of_leaves

  object_arity : (place : ℕ) → place < length arities → arity_of (arities_of ranges) (slice_index objects place) ≡ slice_index arities place
  object_arity place less =
      sym (get_or-map (arity_of (arities_of ranges)) objects place 0 0 (omega (arith, less, as_many))) ∙ ap (λ (hs : List ℕ). slice_index hs place) read.arities_are

  -- where an object stands in the list of its arity
  listed : (arity place : ℕ) (list : List ℕ) → place < length arities → slice_index arities place ≡ arity → list ≡ objects_of (arities_of ranges) arity objects
      → slice_index list (with_arity arity (take place arities)) ≡ slice_index objects place
  listed arity place list less e list_is =
      let counted : with_arity arity (take place arities) ≡ count_by (λ y. y == arity) (take place (map (arity_of (arities_of ranges)) objects)) =
      ap (λ (xs : List ℕ). count_by (λ y. y == arity) (take place xs)) (sym read.arities_are) in
      ap₂ (λ (xs : List ℕ) (n : ℕ). slice_index xs n) list_is counted
      ∙ entry_with_key (arity_of (arities_of ranges)) arity objects place (omega (arith, less, as_many)) (object_arity place less ∙ e)

  -- the objects of one range more
  pub put_range : (list put after : List ℕ) (first k : ℕ) → ArePutBefore ranges arities objects put first k → k < length ranges
      → ((order : List ℕ) → IsArrangementOf (take (first + (range_at ranges k).1 - first) (drop first codes)) order → list ≡ map (λ number. first + number) order) → length after ≡ length arities
      → ((place : ℕ) → place < length arities → slice_index arities place ≡ (range_at ranges k).0 → slice_index after place ≡ slice_index list (with_arity (range_at ranges k).0 (take place arities)))
      → ((place : ℕ) → place < length arities → (slice_index arities place ≡ (range_at ranges k).0 → ⊥) → slice_index after place ≡ slice_index put place)
      → ArePutBefore ranges arities objects after (first + (range_at ranges k).1) (k + 1)
  put_range list put after first k before less each long here others = record {
    first_is = let e = before.first_is in omega (arith, e, sum_by_more (λ (p : ℕ × ℕ). p.1) ranges k (0, 0) less);
    as_long = long;
    same = λ j within place inside e. elim (cases_eq (slice_index arities place) (range_at ranges k).0) [
      | inl is_here ↦ here place inside is_here ∙ listed (range_at ranges k).0 place list inside is_here (range_list first k list before.first_is less each)
      | inr apart ↦ elim (cases_eq j k) [
        | inl last ↦ absurd (apart (e ∙ ap (λ (i : ℕ). (range_at ranges i).0) last))
        | inr other ↦ others place inside apart ∙ before.same j (omega (arith, within, other)) place inside e
      ]
    ];
  }

  -- and at last the leaf objects
  pub put_leaves : (list put after : List ℕ) (first k : ℕ) → ArePutBefore ranges arities objects put first k → length ranges ≤ k
      → ((order : List ℕ) → IsArrangementOf (take (length codes - first) (drop first codes)) order → list ≡ map (λ number. first + number) order) → length after ≡ length arities
      → ((place : ℕ) → place < length arities → slice_index arities place ≡ 0 → slice_index after place ≡ slice_index list (with_arity 0 (take place arities)))
      → ((place : ℕ) → place < length arities → (slice_index arities place ≡ 0 → ⊥) → slice_index after place ≡ slice_index put place)
      → after ≡ objects
  put_leaves list put after first k before past each long here others =
      ext_get_or 0 after objects (long ∙ sym as_many)
      (λ place within.
      let inside : place < length arities = omega (arith, within, long) in
      elim (cases_eq (slice_index arities place) 0) [
        | inl leaf ↦ here place inside leaf ∙ listed 0 place list inside leaf (leaf_list first list (nodes_counted ranges k first past before.first_is) each)
        | inr apart ↦
            let arity = object_arity place inside in
            let found = arity_found ranges (slice_index objects place) (omega (arith, arity, apart)) in
            others place inside apart ∙ before.same found.0 (let l = found.1 in omega (arith, l, past)) place inside (sym arity ∙ sym found.2)
      ])
