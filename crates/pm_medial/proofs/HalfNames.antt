-- The pluses of a quartic map, one for each edge, and the map whose darts they are.
use Rattle.std.proofs.Common.{◌≡◌, ℕ, suc, ◌*◌, ◌/◌, ◌<◌, inl, inr, Bool, true, not, length, map, slice_index, refl, sym, ap, ◌∙◌, subst, arith}
use Rattle.std.specs.List.{range_with_len}
use Rattle.std.proofs.lemmas.Bool.{cases_Bool, cond-true, cond-false}
use Rattle.std.proofs.lemmas.List.FromFn.{get_or-map-range_with_len, length-map-range_with_len}
use Rattle.pm_perm.specs.Permutation.{IsPermutationBelow}
use Rattle.pm_perm.proofs.InverseLemmas.{place_of, place_of-of_value, place_of-stays, value-place_of}
use Rattle.pm_perm.proofs.Interleaved.{parity, is_even, is_odd}
use Rattle.pm_map.specs.Structure.{Structure}
use Rattle.pm_map.specs.Rotation.{RotationSystem, structure_of, twin, IsRootedMap}
use Rattle.pm_map.specs.CycleSize.{IsCycleSize}
use Rattle.pm_map.specs.EdgeNumbers.{IsTwinning, dart_of}
use Rattle.pm_map.proofs.NumberedEdges.{dart_of_permutes, dart_of-twin}
use Rattle.pm_medial.specs.Colouring.{IsColouring}
use Rattle.pm_medial.specs.steps.Halved.{IsHalfOf, IsHalfMap, plus_of, edge_two_on, edge_before}
use Rattle.pm_medial.proofs.SignedDarts.{two_on, two_stays}

module _ (q : RotationSystem) (rooted : IsRootedMap q) (plus : ℕ → Bool) (signed : IsColouring (structure_of q) plus)
    (four : (d : ℕ) → d < length q.sigma → IsCycleSize (slice_index q.sigma) d 4) where
  abbrev pub s : Structure
  s = structure_of q

  abbrev pub next : ℕ → ℕ
  next = slice_index q.sigma

  abbrev pub count : ℕ
  count = length q.sigma / 2

  double : 2 * count ≡ length q.sigma
  double = omega (arith, rooted.even)

  within : (k : ℕ) → k < count → suc (2 * k) < length q.sigma
  within k h = omega (arith, double, h)

  pub plus_of_plus : (k : ℕ) → k < count → plus (plus_of plus k) ≡ true
  plus_of_plus k h = elim (cases_Bool (plus (2 * k))) [
    | inl here ↦ ap plus (cond-true (plus (2 * k)) (2 * k) (suc (2 * k)) here) ∙ here
    | inr there ↦
        let is_twin : twin (2 * k) ≡ suc (2 * k) = omega arith in
        ap plus (cond-false (plus (2 * k)) (2 * k) (suc (2 * k)) there ∙ sym is_twin) ∙ signed.across (2 * k) (let l = within k h in omega arith) ∙ ap not there
  ]

  pub plus_of_edge : (k : ℕ) → plus_of plus k / 2 ≡ k
  plus_of_edge k = elim (cases_Bool (plus (2 * k))) [
    | inl here ↦ ap (λ x. x / 2) (cond-true (plus (2 * k)) (2 * k) (suc (2 * k)) here) ∙ omega arith
    | inr there ↦ ap (λ x. x / 2) (cond-false (plus (2 * k)) (2 * k) (suc (2 * k)) there) ∙ omega arith
  ]

  pub plus_of_stays : (k : ℕ) → k < count → plus_of plus k < length q.sigma
  plus_of_stays k h = let half = plus_of_edge k in let l = within k h in omega (arith, half, l, double)

  -- each plus is that of its edge
  pub plus_of_half : (p : ℕ) → p < length q.sigma → plus p ≡ true → plus_of plus (p / 2) ≡ p
  plus_of_half p h positive = elim (parity p) [
    | is_even e ↦ cond-true (plus (2 * (p / 2))) (2 * (p / 2)) (suc (2 * (p / 2))) (sym (ap plus e) ∙ positive) ∙ sym e
    | is_odd e ↦
        let other : twin p ≡ 2 * (p / 2) = omega (arith, e) in
        cond-false (plus (2 * (p / 2))) (2 * (p / 2)) (suc (2 * (p / 2))) (sym (ap plus other) ∙ signed.across p h ∙ ap not positive) ∙ sym e
  ]

  half_below : (p : ℕ) → p < length q.sigma → p / 2 < count
  half_below p h = omega (arith, double, h)

  abbrev pub t : ℕ → ℕ
  t = edge_two_on next plus

  plus_two_on : (k : ℕ) → k < count → plus (next (next (plus_of plus k))) ≡ true
  plus_two_on k h = two_on s rooted.structure plus signed (plus_of plus k) (plus_of_stays k h) ∙ plus_of_plus k h

  two_on_stays : (k : ℕ) → k < count → next (next (plus_of plus k)) < length q.sigma
  two_on_stays k h = two_stays s rooted.structure plus signed (plus_of plus k) (plus_of_stays k h)

  -- the edges of two pluses at one vertex are twins
  pub edges_twin : IsTwinning count t
  edges_twin = record {
    stays = λ k h. half_below (next (next (plus_of plus k))) (two_on_stays k h);
    back = λ k h.
        let there : plus_of plus (edge_two_on next plus k) ≡ next (next (plus_of plus k)) = plus_of_half (next (next (plus_of plus k))) (two_on_stays k h) (plus_two_on k h) in
        ap (λ x. next (next x) / 2) there ∙ ap (λ x. x / 2) ((four (plus_of plus k) (plus_of_stays k h)).back) ∙ plus_of_edge k;
    other = λ k h same.
        let there : plus_of plus (edge_two_on next plus k) ≡ next (next (plus_of plus k)) = plus_of_half (next (next (plus_of plus k))) (two_on_stays k h) (plus_two_on k h) in
        (four (plus_of plus k) (plus_of_stays k h)).least 2 (omega arith) (omega arith) (sym there ∙ ap (plus_of plus) same);
  }

  -- the name of a plus
  pub name : ℕ → ℕ
  name p = dart_of t (p / 2)

  names_permute : IsPermutationBelow count (dart_of t)
  names_permute = dart_of_permutes count t edges_twin

  pub half_of_map : (m : RotationSystem) → IsHalfMap q plus m → IsHalfOf s plus name (structure_of m)
  unfolding name
  half_of_map m is =
      let long : length m.sigma ≡ length q.sigma / 2 = omega (arith, is.half) in
      record {
        darts = sym is.half;
        stays = λ p h positive. subst (λ n. dart_of t (p / 2) < n) (sym long) (names_permute.stays (p / 2) (half_below p h));
        injective = λ p r h l positive also same.
            let edges : p / 2 ≡ r / 2 = names_permute.injective (p / 2) (r / 2) (half_below p h) (half_below r l) same in
            sym (plus_of_half p h positive) ∙ ap (plus_of plus) edges ∙ plus_of_half r l also;
        onto = λ k h.
            let below : k < length q.sigma / 2 = subst (λ n. k < n) long h in
            let edge = place_of (dart_of t) (length q.sigma / 2) k in
            let edge_below = place_of-stays (dart_of t) (length q.sigma / 2) k names_permute below in (
              plus_of plus edge,
              plus_of_stays edge edge_below,
              plus_of_plus edge edge_below,
              ap (dart_of t) (plus_of_edge edge) ∙ value-place_of (dart_of t) (length q.sigma / 2) k names_permute below,
            );
        twin = λ p h positive.
            sym (dart_of-twin count t edges_twin (p / 2) (half_below p h)) ∙ ap (λ x. dart_of t (slice_index q.sigma (slice_index q.sigma x) / 2)) (plus_of_half p h positive);
        next = λ p h positive.
            is.entry (p / 2) (subst (λ n. p / 2 < n) (sym long) (half_below p h))
            ∙ ap (λ x. dart_of t (slice_index q.sigma (slice_index q.sigma (slice_index q.sigma (twin x))) / 2)) (plus_of_half p h positive);
        root = is.root;
      }

  -- there is such a map
  entry : ℕ → ℕ
  entry k = dart_of t (edge_before next plus (place_of (dart_of t) count k))

  pub half_map : RotationSystem
  half_map = record { sigma = map entry (range_with_len 0 count); root = dart_of t (q.root / 2) }

  pub half_map_is : IsHalfMap q plus half_map
  unfolding half_map entry
  half_map_is =
      let long : length (map entry (range_with_len 0 (length q.sigma / 2))) ≡ length q.sigma / 2 = length-map-range_with_len entry 0 (length q.sigma / 2) in
      record {
        half = omega (arith, long, double);
        entry = λ k h.
            let below : k < length q.sigma / 2 = subst (λ n. k < n) long h in
            get_or-map-range_with_len entry 0 (length q.sigma / 2) (dart_of t k) (dart_of t k) 0 (names_permute.stays k below) (omega arith)
            ∙ ap (λ x. dart_of t (edge_before next plus x)) (place_of-of_value (dart_of t) (length q.sigma / 2) k names_permute below);
        root = refl;
      }
