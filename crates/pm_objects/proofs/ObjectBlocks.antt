-- The objects of a arity degree have numbers on end: those of a range come after the nodes of the ranges before it, and the leaf
-- objects after all nodes. So a code tells their order.
use Rattle.std.proofs.Common.{◌≡◌, ℕ, zero, suc, ◌+◌, ◌-◌, ◌<◌, ◌≤◌, ◌==◌, inl, inr, List, [], ◌∷◌, ◌++◌, length, map, get_or, All, take, drop, replicate, ap, sym, ◌∙◌, arith, append_assoc, drop-drop, length-append, eq-eqb, eqb-true, Contains}
use Rattle.std.specs.Prelude.{count_by, flat_map, slice_index}
use Rattle.std.specs.List.{sum_by}
use Rattle.std.proofs.lemmas.Bool.{cases_lt}
use Rattle.std.proofs.lemmas.List.{length-map, length-replicate, get_or-map, get_or-replicate, get_or_append_left, get_or-append_right, get_or_past, get_or_default, ext_get_or, take_at, drop_at}
use Rattle.std.proofs.lemmas.List.Elements.{filter_passes}
use Rattle.std.proofs.lemmas.List.Sums.{length-filter, sum_by-cons}
use Rattle.pm_perm.proofs.Contained.{contains_at, is_at}
use Rattle.pm_perm.specs.Permutation.{IsPermutationList}
use Rattle.pm_perm.proofs.InverseLemmas.{standing_permutes}
use Rattle.pm_perm.proofs.Permutations.{reached}
use Rattle.pm_lehmer.specs.Lehmer.{code_of, IsArrangementOf}
use Rattle.pm_lehmer.proofs.Rising.{code_of-rising}
use Rattle.pm_objects.specs.Objects.{AreApart, range_at, arity_of, arities_of, nodes_of_ranges, objects_of}
use Rattle.pm_objects.proofs.ObjectCounts.{nodes_by_ranges}
use Rattle.pm_objects.proofs.Sorting.{stands_kept}

-- the nodes of the ranges before a place
abbrev pub nodes_before : List (ℕ × ℕ) → ℕ → ℕ
nodes_before ranges k = sum_by (λ (p : ℕ × ℕ). p.1) (take k ranges)

-- an object of the first range, and another one
arity_first : (p : ℕ × ℕ) (ranges : List (ℕ × ℕ)) (object : ℕ) → object < p.1 → arity_of (arities_of (p ∷ ranges)) object ≡ p.0
arity_first p ranges object less =
    get_or_append_left (replicate p.1 (p.0)) (arities_of ranges) 0 object (let l = length-replicate p.1 (p.0) in omega (arith, l, less))
    ∙ get_or-replicate p.1 object (p.0) 0 less

arity_later : (p : ℕ × ℕ) (ranges : List (ℕ × ℕ)) (object : ℕ) → p.1 ≤ object → arity_of (arities_of (p ∷ ranges)) object ≡ arity_of (arities_of ranges) (object - p.1)
arity_later p ranges object past = get_or-append_right (replicate p.1 (p.0)) (arities_of ranges) p.1 object 0 (length-replicate p.1 (p.0)) past

-- the objects of a range are of its arity degree
pub arity_here : (ranges : List (ℕ × ℕ)) (k object : ℕ) → k < length ranges → nodes_before ranges k ≤ object → object < nodes_before ranges k + (range_at ranges k).1
    → arity_of (arities_of ranges) object ≡ (range_at ranges k).0
arity_here [] k object less low high = absurd (omega (arith, less))
arity_here (p ∷ ranges) zero object less low high = arity_first p ranges object (omega (arith, high))
arity_here (p ∷ ranges) (suc k) object less low high =
    let s = sum_by-cons (λ (q : ℕ × ℕ). q.1) p (take k ranges) in
    arity_later p ranges object (omega (arith, s, low)) ∙ arity_here ranges k (object - p.1) (omega (arith, less)) (omega (arith, s, low)) (omega (arith, s, low, high))

-- and no object before them is
pub arity_low : (ranges : List (ℕ × ℕ)) (k object : ℕ) → AreApart ranges → k < length ranges → arity_of (arities_of ranges) object ≡ (range_at ranges k).0 → nodes_before ranges k ≤ object
arity_low [] k object are less e = absurd (omega (arith, less))
arity_low (p ∷ ranges) zero object are less e = omega arith
arity_low (p ∷ ranges) (suc k) object are less e = elim (cases_lt object p.1) [
  | inl first ↦ absurd (are.apart 0 (suc k) (omega arith) less (sym (arity_first p ranges object first) ∙ e))
  | inr past ↦
      let s = sum_by-cons (λ (q : ℕ × ℕ). q.1) p (take k ranges) in
      let h = arity_low ranges k (object - p.1)
      (record { some = λ j within. are.some (suc j) (omega (arith, within)); apart = λ i j before within. are.apart (suc i) (suc j) (omega (arith, before)) (omega (arith, within)) })
      (omega (arith, less)) (sym (arity_later p ranges object past) ∙ e) in
      omega (arith, s, h, past)
]

-- each node object is of some range
pub arity_found : (ranges : List (ℕ × ℕ)) (object : ℕ) → 0 < arity_of (arities_of ranges) object → (k : ℕ) × (k < length ranges) × ((range_at ranges k).0 ≡ arity_of (arities_of ranges) object)
arity_found [] object some = absurd (omega (arith, some))
arity_found (p ∷ ranges) object some = elim (cases_lt object p.1) [
  | inl first ↦ (0, omega arith, sym (arity_first p ranges object first))
  | inr past ↦
      let later = arity_later p ranges object past in
      let h = arity_found ranges (object - p.1) (omega (arith, some, later)) in
      (suc h.0, (let l = h.1 in omega (arith, l)), h.2 ∙ sym later)
]

-- a list that is the code of each range, one after another
pub code_at : (f : ℕ × ℕ → List ℕ) (ranges : List (ℕ × ℕ)) (rest : List ℕ) (k : ℕ) → ((j : ℕ) → j < length ranges → length (f (range_at ranges j)) ≡ (range_at ranges j).1) → k < length ranges
    → take (range_at ranges k).1 (drop (nodes_before ranges k) (flat_map f ranges ++ rest)) ≡ f (range_at ranges k)
code_at f [] rest k long less = absurd (omega (arith, less))
code_at f (p ∷ ranges) rest zero long less = ap (take p.1) (append_assoc (f p) (flat_map f ranges) rest) ∙ take_at (f p) (flat_map f ranges ++ rest) p.1 (long 0 (omega arith))
code_at f (p ∷ ranges) rest (suc k) long less =
    let s : nodes_before (p ∷ ranges) (suc k) ≡ p.1 + nodes_before ranges k = sum_by-cons (λ (q : ℕ × ℕ). q.1) p (take k ranges) in
    ap (take (range_at ranges k).1) (
    ap (λ (n : ℕ). drop n (flat_map f (p ∷ ranges) ++ rest)) s
    ∙ sym (drop-drop (nodes_before ranges k) p.1 (flat_map f (p ∷ ranges) ++ rest))
    ∙ ap (λ (xs : List ℕ). drop (nodes_before ranges k) (drop p.1 xs)) (append_assoc (f p) (flat_map f ranges) rest)
    ∙ ap (drop (nodes_before ranges k)) (drop_at (f p) (flat_map f ranges ++ rest) p.1 (long 0 (omega arith)))
    ) ∙ code_at f ranges rest k (λ j within. long (suc j) (omega (arith, within))) (omega (arith, less))

flat_long : (f : ℕ × ℕ → List ℕ) (ranges : List (ℕ × ℕ)) → ((j : ℕ) → j < length ranges → length (f (range_at ranges j)) ≡ (range_at ranges j).1) → length (flat_map f ranges) ≡ sum_by (λ (p : ℕ × ℕ). p.1) ranges
flat_long f [] long = omega arith
flat_long f (p ∷ ranges) long =
    let h = flat_long f ranges (λ j within. long (suc j) (omega (arith, within))) in
    let here = long 0 (omega arith) in
    omega (arith, h, here, length-append (f p) (flat_map f ranges), sum_by-cons (λ (q : ℕ × ℕ). q.1) p ranges)

-- what stands behind them
pub code_behind : (f : ℕ × ℕ → List ℕ) (ranges : List (ℕ × ℕ)) (rest : List ℕ) → ((j : ℕ) → j < length ranges → length (f (range_at ranges j)) ≡ (range_at ranges j).1)
    → drop (nodes_of_ranges ranges) (flat_map f ranges ++ rest) ≡ rest
code_behind f ranges rest long = drop_at (flat_map f ranges) rest (nodes_of_ranges ranges) (flat_long f ranges long ∙ sym (nodes_by_ranges ranges))

-- objects of which those of a arity degree are all from a first one on
module _ (arities objects : List ℕ) (arity first count : ℕ) (permute : IsPermutationList objects) (inside : first + count ≤ length objects)
    (here : (object : ℕ) → first ≤ object → object < first + count → arity_of arities object ≡ arity) (low : (object : ℕ) → arity_of arities object ≡ arity → first ≤ object)
    (many : count_by (λ object. arity_of arities object == arity) objects ≡ count) where
  -- how far behind the first one they are
  shifted : List ℕ
  shifted = map (λ (object : ℕ). object - first) (objects_of arities arity objects)

  shifted_long : length shifted ≡ count
  unfolding shifted
  shifted_long = length-map (objects_of arities arity objects) (λ (object : ℕ). object - first) ∙ length-filter (λ object. arity_of arities object == arity) objects ∙ many

  stands : (n : ℕ) → n < length shifted → Contains shifted n
  unfolding shifted
  stands n less =
      let at = reached (slice_index objects) (length objects) (first + n) permute (omega (arith, less, shifted_long, inside)) in
      let kept = stands_kept (λ object. arity_of arities object == arity) objects (first + n) (contains_at _ _ at.from at.below at.value)
      (eq-eqb (arity_of arities (first + n)) arity (here (first + n) (omega arith) (omega (arith, less, shifted_long)))) in
      let is = (is_at _ _ kept) in (contains_at _ _ kept.0 (let l = length-map (objects_of arities arity objects) (λ (object : ℕ). object - first) in let w = kept.1 in omega (arith, l, w)) (get_or-map (λ (object : ℕ). object - first) (objects_of arities arity objects) kept.0 0 0 kept.1 ∙ ap (λ (object : ℕ). object - first) is ∙ omega arith))

  shifted_permutes : IsPermutationList shifted
  shifted_permutes = standing_permutes shifted stands

  back : map (λ (n : ℕ). first + n) shifted ≡ objects_of arities arity objects
  unfolding shifted
  back =
      let list : List ℕ = objects_of arities arity objects in
      let list_long = length-map list (λ (object : ℕ). object - first) in
      let all_long = length-map shifted (λ (n : ℕ). first + n) in
      ext_get_or 0 (map (λ (n : ℕ). first + n) shifted) list (all_long ∙ list_long)
      (λ k less.
      let within : k < length list = omega (arith, less, all_long, list_long) in
      let is : arity_of arities (get_or list k 0) ≡ arity = eqb-true (arity_of arities (get_or list k 0)) arity (filter_passes (λ object. arity_of arities object == arity) objects k 0 within) in
      let from = low (get_or list k 0) is in
      get_or-map (λ (n : ℕ). first + n) shifted k 0 0 (omega (arith, within, list_long)) ∙ ap (λ (n : ℕ). first + n) (get_or-map (λ (object : ℕ). object - first) list k 0 0 within) ∙ omega (arith, from))

  shifted_below : All (λ n. n < length shifted) shifted
  shifted_below = λ k d less.
      let stays = shifted_permutes.stays k less in
      let same = get_or_default shifted k d 0 less in
      omega (arith, stays, same)

  arranged : IsArrangementOf (code_of (objects_of arities arity objects)) shifted
  arranged = record {
    is_permutation = shifted_permutes;
    has_code = sym (code_of-rising (length shifted) (λ (n : ℕ). first + n) shifted (record { rises = λ x y before within. omega (arith, before) }) shifted_below) ∙ ap code_of back;
  }

  -- they are what their code tells
  pub told_by_code : (list : List ℕ) → ((order : List ℕ) → IsArrangementOf (code_of (objects_of arities arity objects)) order → list ≡ map (λ number. first + number) order) → list ≡ objects_of arities arity objects
  told_by_code list each = each shifted arranged ∙ back

-- the leaf objects
pub leaf_here : (ranges : List (ℕ × ℕ)) (object : ℕ) → nodes_of_ranges ranges ≤ object → arity_of (arities_of ranges) object ≡ 0
leaf_here ranges object past = get_or_past (arities_of ranges) object 0 past

pub leaf_low : (ranges : List (ℕ × ℕ)) (object : ℕ) → AreApart ranges → arity_of (arities_of ranges) object ≡ 0 → nodes_of_ranges ranges ≤ object
leaf_low [] object are e = omega arith
leaf_low (p ∷ ranges) object are e = elim (cases_lt object p.1) [
  | inl first ↦ absurd (let some = are.some 0 (omega arith) in omega (arith, some, e, arity_first p ranges object first))
  | inr past ↦
      let h = leaf_low ranges (object - p.1)
      (record { some = λ j within. are.some (suc j) (omega (arith, within)); apart = λ i j before within. are.apart (suc i) (suc j) (omega (arith, before)) (omega (arith, within)) })
      (sym (arity_later p ranges object past) ∙ e) in
      omega (arith, h, past, length-append (replicate p.1 p.0) (arities_of ranges), length-replicate p.1 p.0)
]
