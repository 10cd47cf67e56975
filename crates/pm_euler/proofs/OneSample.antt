-- The choices of a size give one map and one residue.
use Rattle.std.proofs.Common.{◌≡◌, ℕ, ◌<◌, List, sym, subst}
use Rattle.pm_match.proofs.FreeMarks.{free_marks}
use Rattle.pm_trees.proofs.PlantedAt.{plant_is_marked, one_anew, anew_blossoms, anew_alike}
use Rattle.pm_brackets.proofs.PlantedAt.{chosen_is}
use Rattle.pm_trees.specs.Word.{contour}
use Rattle.pm_trees.specs.Blossoming.{IsBlossoming, leaves}
use Rattle.pm_trees.proofs.LeafTurns.{leaf_few}
use Rattle.pm_match.specs.Pair.{IsFree, IsBalanced}
use Rattle.pm_map.specs.Rotation.{RotationSystem}
use Rattle.pm_euler.specs.PlantedAnew.{IsPlantedAnew}
use Rattle.pm_euler.specs.Closed.{IsCanonicalClosure}
use Rattle.pm_euler.proofs.ClosedMaps.{one_canonical_closure}

pub anew_balances : (word : List ℕ) (free : ℕ) (turned : List ℕ) (old : ℕ) → IsBlossoming word → IsPlantedAnew word free turned old → IsBalanced (contour turned)
anew_balances word free turned old tree a = plant_is_marked IsFree free_marks word a.start_number a.place turned tree (chosen_is (IsFree (contour word)) free a.place a.is_chosen) a.numbered a.is_replanted

-- and closed, it gives one canonical map and one old plant
pub closed_anew_once : (word same_word : List ℕ) (free : ℕ) (one other : List ℕ) (a b : ℕ) (map same_map : RotationSystem) → IsBlossoming word → same_word ≡ word
    → IsPlantedAnew word free one a → IsPlantedAnew same_word free other b → IsCanonicalClosure one map → IsCanonicalClosure other same_map → (map ≡ same_map) × (a ≡ b)
closed_anew_once word same_word free one other a b map same_map tree words x y closed other_closed =
    let same = one_anew IsFree word free one other a b tree (free_marks.two word tree) x (subst (λ (w : List ℕ). IsPlantedAnew w free other b) words y) in (
      one_canonical_closure one map same_map (anew_blossoms word free one a tree x) (anew_balances word free one a tree x) closed
          (subst (λ (w : List ℕ). IsCanonicalClosure w same_map) same.0 other_closed),
      sym same.1,
    )

-- the old plant is one of the leaves
pub old_plant_few : (word : List ℕ) (free : ℕ) (turned : List ℕ) (old : ℕ) → IsBlossoming word → IsPlantedAnew word free turned old → old < leaves word
old_plant_few word free turned old tree x =
    subst (λ (n : ℕ). old < n) (anew_alike word free turned old tree x).leaves_are (leaf_few (contour turned) old x.now x.is_old_number)
