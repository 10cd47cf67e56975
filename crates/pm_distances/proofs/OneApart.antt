-- The distances of the two faces of an edge differ by one where all degrees are even.
use Rattle.std.proofs.Common.{◌≡◌, ℕ, suc, ◌%◌, ◌<◌, ◌⊎◌, inl, inr, false, sym, ap, ◌∙◌, arith}
use Rattle.std.proofs.lemmas.Bool.{cases_Bool}
use Rattle.pm_perm.specs.Pairs.{IsNestedBelow}
use Rattle.pm_map.specs.Structure.{Structure, IsStructure}
use Rattle.pm_map.specs.CycleSize.{IsCycleSize}
use Rattle.pm_map.specs.Plane.{HasEulerTwo, IsPlane}
use Rattle.pm_map.specs.FaceDistance.{AreFaceLevels}
use Rattle.pm_map.proofs.CarriedStructure.{euler_carried}
use Rattle.pm_map.proofs.DistanceLemmas.{levels_are_distances}
use Rattle.pm_map.proofs.DistanceRounds.{each_face_has_distance}
use Rattle.pm_walk.specs.Walk.{partner}
use Rattle.pm_walk.proofs.Edges.{lesser_or_greater, cut_twin}
use Rattle.pm_walk.proofs.NestedEdges.{edges_nested}
use Rattle.pm_distances.specs.AcrossEdges.{AllDegreesAreEven, DistancesDifferByOne}
use Rattle.pm_distances.proofs.EachDegree.{each_degree_carried}
use Rattle.pm_distances.proofs.SameLevels.{one_distance}
use Rattle.pm_distances.proofs.KeptEdges.{kept-down}
use Rattle.pm_distances.proofs.LevelsAlong.{cut-one}
use Rattle.pm_distances.proofs.Walked.{is_up, is_cut, across, IsWalkedInOrder}
use Rattle.pm_distances.proofs.Walks.{IsWalked, each_map_is_walked}

-- across each edge the level changes by one
pub record ChangesByOne (s : Structure) (level : ℕ → ℕ) : Type 0 where
  pub changes : (d : ℕ) → d < s.darts → (level (s.twin d) ≡ suc (level d)) ⊎ (level d ≡ suc (level (s.twin d)))

-- where the other edges lead down from their lesser darts, the level changes by one across each edge
pub changes-by_one : (s : Structure) (level : ℕ → ℕ) → IsStructure s
    → ((d : ℕ) → d < s.darts → is_cut s level d ≡ false → d < s.twin d → level d ≡ suc (level (s.twin d))) → ChangesByOne s level
changes-by_one s level is down = record {
  changes = λ d h. elim (cases_Bool (is_cut s level d)) [
    | inl cut ↦ cut-one s level d is h cut
    | inr kept ↦ elim (lesser_or_greater s d is h) [
      | inl less ↦ inr (down d h kept less)
      | inr more ↦
          let back : s.twin (s.twin d) ≡ d = is.twin_back d h in
          inl (down (s.twin d) (is.twin_stays d h) (cut_twin s (is_up s level) d is h ∙ kept) (omega (arith, back, more)) ∙ ap (λ (e : ℕ). suc (level e)) back)
    ]
  ];
}

-- across each edge the level changes by one
pub one_apart : (s : Structure) (level : ℕ → ℕ) → IsStructure s → 0 < s.darts → HasEulerTwo s → AreFaceLevels s level → IsWalkedInOrder s level
    → ((d degree : ℕ) → d < s.darts → IsCycleSize s.next d degree → degree % 2 ≡ 0) → ChangesByOne s level
one_apart s level is some euler levels walked even =
    let nested : IsNestedBelow s.darts (across s level) × IsNestedBelow s.darts (partner s (is_up s level)) = edges_nested s (is_up s level) is some euler walked in
    changes-by_one s level is (λ d h kept less. kept-down s level d is levels walked nested.0 even h kept less)

-- levels change by one across each edge, since they do where the darts are numbered along the walk
changes : (s : Structure) (level : ℕ → ℕ) → IsStructure s → 0 < s.darts → IsPlane s → AllDegreesAreEven s → AreFaceLevels s level → ChangesByOne s level
changes s level is some plane even levels =
    let w : IsWalked s level = each_map_is_walked s level is some levels in
    let euler = euler_carried w.rename s w.walked is w.structure w.carries plane.euler in
    let even_walked = each_degree_carried (λ degree. degree % 2 ≡ 0) w.rename s w.walked is w.structure w.carries even in
    let one = one_apart w.walked w.walked_level w.structure (omega (arith, w.carries.darts)) euler w.levels w.in_order even_walked in
    record { changes = λ d l. back s level is w one d l } where
      back : (s : Structure) (level : ℕ → ℕ) → IsStructure s → (w : IsWalked s level) → ChangesByOne w.walked w.walked_level → (d : ℕ) → d < s.darts
          → (level (s.twin d) ≡ suc (level d)) ⊎ (level d ≡ suc (level (s.twin d)))
      back s level is w one d l =
          let here : w.walked_level (w.rename d) ≡ level d = w.same_level d l in
          let beyond : w.walked_level (w.walked.twin (w.rename d)) ≡ level (s.twin d) = ap w.walked_level (sym (w.carries.twin d l)) ∙ w.same_level (s.twin d) (is.twin_stays d l) in
          elim (one.changes (w.rename d) (omega (arith, w.carries.renumbers.stays d l, w.carries.darts))) [
            | inl up ↦ inl (omega (arith, up, here, beyond))
            | inr down ↦ inr (omega (arith, down, here, beyond))
          ]

pub differ_by_one : DistancesDifferByOne
differ_by_one s plane even d here beyond l at_here at_beyond =
    let is : IsStructure s = plane.structure in
    let distances = each_face_has_distance s is plane.connected in
    let levels : AreFaceLevels s distances.0 = (levels_are_distances s distances.0 is).1 distances.1 in
    let one : here ≡ distances.0 d = one_distance s s.root d here (distances.0 d) at_here (distances.1 d l) in
    let other : beyond ≡ distances.0 (s.twin d) = one_distance s s.root (s.twin d) beyond (distances.0 (s.twin d)) at_beyond (distances.1 (s.twin d) (is.twin_stays d l)) in
    elim ((changes s distances.0 is (omega arith) plane even levels).changes d l) [
      | inl up ↦ inl (omega (arith, up, one, other))
      | inr down ↦ inr (omega (arith, down, one, other))
    ]
