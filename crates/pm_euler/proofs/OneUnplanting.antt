-- A map and the number of the old plant come from no two trees and free leaves.
use Rattle.std.proofs.Common.{◌≡◌, ℕ, List, sym, subst}
use Rattle.pm_trees.proofs.PlantedAt.{planted_anew_once, anew_blossoms}
use Rattle.pm_trees.specs.Blossoming.{IsBlossoming}
use Rattle.pm_match.specs.Pair.{IsFree}
use Rattle.pm_map.specs.Rotation.{RotationSystem, structure_of}
use Rattle.pm_map.proofs.SameMaps.{same_symmetric}
use Rattle.pm_close.proofs.PlaneMap.{rooted_closure}
use Rattle.pm_open.specs.Opening.{IsOpening}
use Rattle.pm_open.proofs.UniqueOpening.{one_opening}
use Rattle.pm_euler.specs.Closed.{IsCanonicalClosure}
use Rattle.pm_euler.specs.PlantedAnew.{IsPlantedAnew}
use Rattle.pm_euler.proofs.ClosedMaps.{canonical_closure_is_rooted}
use Rattle.pm_euler.proofs.OneSample.{anew_balances}

-- a balanced tree is the opening of the canonical map of its closure
pub closure_opens : (word : List ℕ) (free : ℕ) (turned : List ℕ) (old : ℕ) (map : RotationSystem) → IsBlossoming word → IsPlantedAnew word free turned old → IsCanonicalClosure turned map → IsOpening map turned
closure_opens word free turned old map tree x c =
    let blossoming : IsBlossoming turned = anew_blossoms word free turned old tree x in
    let balanced = anew_balances word free turned old tree x in
    record {
      blossoming = blossoming;
      balanced = balanced;
      closure = c.closure;
      is_closure = c.is_closure;
      same = same_symmetric (structure_of c.closure) (structure_of map) (rooted_closure turned c.closure blossoming balanced c.is_closure).structure c.is_canonical.is_same;
    }

-- trees that are planted anew, with the old plant as the same leaf, and close to one map are one tree, planted anew at the
-- same free leaf
pub anew_is_once : (word other turned_a turned_b : List ℕ) (b c old : ℕ) (map : RotationSystem) → IsBlossoming word → IsBlossoming other
    → IsPlantedAnew word b turned_a old → IsPlantedAnew other c turned_b old → IsCanonicalClosure turned_a map → IsCanonicalClosure turned_b map
    → (word ≡ other) × (b ≡ c) × (turned_a ≡ turned_b)
anew_is_once word other turned_a turned_b b c old map tree other_tree x y closed other_closed =
    let rooted = canonical_closure_is_rooted turned_a map (anew_blossoms word b turned_a old tree x) (anew_balances word b turned_a old tree x) closed in
    let same : turned_a ≡ turned_b =
    one_opening map turned_a turned_b rooted (closure_opens word b turned_a old map tree x closed) (closure_opens other c turned_b old map other_tree y other_closed) in
    let once = planted_anew_once IsFree word other b c turned_a old tree other_tree x (subst (λ (t : List ℕ). IsPlantedAnew other c t old) (sym same) y) in
    (once.0, once.1, same)
