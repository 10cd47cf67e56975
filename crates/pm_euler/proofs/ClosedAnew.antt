-- A blossoming tree is planted anew at each of its two free leaves, and is closed there.
use Rattle.std.proofs.Common.{ℕ, ◌<◌, List, take, refl}
use Rattle.pm_match.proofs.FreeMarks.{free_marks}
use Rattle.pm_brackets.proofs.PlantedAt.{chosen_exists}
use Rattle.pm_trees.proofs.PlantedAt.{anew_from, anew_blossoms}
use Rattle.pm_trees.specs.declared.letters.TheConstants.{LEAF}
use Rattle.pm_trees.specs.Word.{contour}
use Rattle.pm_brackets.specs.Word.{count}
use Rattle.pm_trees.specs.Blossoming.{IsBlossoming}
use Rattle.pm_trees.specs.Leaves.{IsLeafAt}
use Rattle.pm_trees.specs.Replanted.{IsReplanted}
use Rattle.pm_trees.specs.Replanting.{leaf_after}
use Rattle.pm_trees.proofs.LeafTurns.{leaf_few}
use Rattle.pm_trees.proofs.Replants.{each_leaf}
use Rattle.pm_match.specs.Pair.{IsFree, IsBalanced}
use Rattle.pm_map.specs.Rotation.{RotationSystem}
use Rattle.pm_map.specs.Canonical.{IsCanonicalOf}
use Rattle.pm_canon.proofs.ExistenceLemmas.{canonical_map_exists}
use Rattle.pm_close.specs.Closure.{IsClosed}
use Rattle.pm_close.proofs.PlaneMap.{rooted_closure}
use Rattle.pm_close.proofs.SomeClosure.{each_tree_closes}
use Rattle.pm_euler.specs.PlantedAnew.{IsFreeLeaf, IsPlantedAnew}
use Rattle.pm_euler.specs.Sampled.{IsClosedAnew}
use Rattle.pm_euler.proofs.FreeLeaves.{free_leaf_numbered}
use Rattle.pm_euler.proofs.OneSample.{anew_balances}

-- the tree planted anew at its free leaf of a number, its old plant, and the canonical map of its closure
pub record HasClosure (word : List ℕ) (free : ℕ) : Type 0 where
  pub old_plant : ℕ
  pub map : RotationSystem
  pub is : IsClosedAnew word free map old_plant

-- the tree planted anew, and its old plant
record IsAnew (word : List ℕ) (free : ℕ) : Type 0 where
  turned : List ℕ
  old_plant : ℕ
  is : IsPlantedAnew word free turned old_plant

-- each of the two free leaves has such a tree
planted_anew : (word : List ℕ) (free : ℕ) → IsBlossoming word → free < 2 → IsAnew word free
planted_anew word free tree few =
    let found : (place : ℕ) × IsFreeLeaf (contour word) free place = chosen_exists (IsFree (contour word)) (free_marks.two word tree) free few in
    let leaf : ℕ = count LEAF (take found.0 (contour word)) in
    let numbered : IsLeafAt (contour word) leaf found.0 = free_leaf_numbered (contour word) free found.0 leaf found.1 refl in
    let replanted : (replanted : List ℕ) × IsReplanted word leaf replanted = each_leaf word leaf tree (leaf_few (contour word) leaf found.0 numbered) in
    record {
      turned = replanted.0;
      old_plant = leaf_after word leaf 0;
      is = anew_from IsFree word free leaf found.0 replanted.0 tree found.1 numbered replanted.1;
    }

-- and a canonical map of its closure, since it is balanced
pub closed_anew : (word : List ℕ) (free : ℕ) → IsBlossoming word → free < 2 → HasClosure word free
closed_anew word free tree few =
    let anew : IsAnew word free = planted_anew word free tree few in
    let blossoming : IsBlossoming anew.turned = anew_blossoms word free anew.turned anew.old_plant tree anew.is in
    let balanced : IsBalanced (contour anew.turned) = anew_balances word free anew.turned anew.old_plant tree anew.is in
    let closed : (map : RotationSystem) × IsClosed (contour anew.turned) map = each_tree_closes anew.turned blossoming in
    let named : (canonical : RotationSystem) × IsCanonicalOf closed.0 canonical = canonical_map_exists closed.0 (rooted_closure anew.turned closed.0 blossoming balanced closed.1) in
    record {
      old_plant = anew.old_plant;
      map = named.0;
      is = record { turned = anew.turned; is_anew = anew.is; is_closed = record { closure = closed.0; is_closure = closed.1; is_canonical = named.1 } };
    }
