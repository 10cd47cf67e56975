-- Each structure with levels is the same as one whose darts are numbered along the walk that opens it.
use Rattle.std.proofs.Common.{◌≡◌, ℕ, suc, ◌<◌, eqb, refl, ap, arith}
use Rattle.pm_map.specs.Structure.{Structure, IsStructure, CarriesTo}
use Rattle.pm_map.specs.FaceDistance.{AreFaceLevels}
use Rattle.pm_map.proofs.DistanceLemmas.{levels_carried}
use Rattle.pm_walk.proofs.Cutting.{HasCut, has_cut}
use Rattle.pm_walk.proofs.MetDarts.{met_reached}
use Rattle.pm_walk.proofs.Numbered.{IsWhole, IsNumberedAlong, numbered_along, walked_same}
use Rattle.pm_distances.proofs.Walked.{is_up, IsWalkedInOrder}
use Rattle.pm_distances.proofs.WholeWalk.{GoesByLevels, all_met}

-- a structure is the same as one with levels whose darts are numbered along the walk, with the same levels
pub record IsWalked (s : Structure) (level : ℕ → ℕ) : Type 0 where
  pub walked : Structure
  pub walked_level : ℕ → ℕ
  pub rename : ℕ → ℕ
  pub carries : CarriesTo rename s walked
  pub structure : IsStructure walked
  pub levels : AreFaceLevels walked walked_level
  pub in_order : IsWalkedInOrder walked walked_level
  pub same_level : (d : ℕ) → d < s.darts → walked_level (rename d) ≡ level d

-- the levels go along with the numbers
numbered-walked : (s : Structure) (level : ℕ → ℕ) → IsStructure s → AreFaceLevels s level → IsNumberedAlong s (is_up s level) → IsWalked s level
numbered-walked s level is levels n =
    let walked_level : ℕ → ℕ = λ k. level (n.dart k) in
    let same : (d : ℕ) → d < s.darts → level (n.dart (n.rename d)) ≡ level d = λ d h. ap level (n.back d h) in
    record {
      walked = n.walked;
      walked_level = λ k. level (n.dart k);
      rename = n.rename;
      carries = n.carries;
      structure = n.structure;
      levels = levels_carried n.rename s n.walked level (λ k. level (n.dart k)) is n.structure n.carries levels same;
      in_order = walked_same n.walked (λ k. is_up s level (n.dart k)) (is_up n.walked (λ k. level (n.dart k)))
          (λ k h. ap (λ (d : ℕ). eqb (level d) (suc (level (n.dart k)))) (n.twin k (omega (arith, h, n.carries.darts)))) n.in_order;
      same_level = same;
    }

-- the walk meets every dart
whole : (s : Structure) (level : ℕ → ℕ) (cut : HasCut s (is_up s level) s.darts) → IsStructure s → 0 < s.darts → AreFaceLevels s level → IsWhole s (is_up s level) cut.cut
whole s level c is some levels =
    let w : GoesByLevels s level c.cut = record { walk = record { structure = is; some = some; cutting = c.cutting; decided = c.decided }; levels = levels } in
    record { walk = w.walk; meets = λ d h. met_reached s (is_up s level) c.cut w.walk d (all_met s level c.cut w (level d) d h refl) }

-- each structure with a dart and levels is walked
pub each_map_is_walked : (s : Structure) (level : ℕ → ℕ) → IsStructure s → 0 < s.darts → AreFaceLevels s level → IsWalked s level
each_map_is_walked s level is some levels =
    let c : HasCut s (is_up s level) s.darts = has_cut s (is_up s level) is some s.darts in
    numbered-walked s level is levels (numbered_along s (is_up s level) c.cut (whole s level c is some levels))
