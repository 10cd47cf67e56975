-- The canonical map of the closure of a balanced tree: there is one, and where each node has degree 4 it is quartic.
use Rattle.std.proofs.Common.{◌≡◌, ℕ, List, subst}
use Rattle.pm_trees.specs.Word.{contour}
use Rattle.pm_trees.specs.Blossoming.{IsBlossoming}
use Rattle.pm_match.specs.Pair.{IsBalanced}
use Rattle.pm_map.specs.Rotation.{RotationSystem, IsRootedMap}
use Rattle.pm_map.specs.Canonical.{IsCanonicalOf}
use Rattle.pm_map.proofs.UniqueCanonical.{canonical_map_is_rooted, canonical_map_is_unique}
use Rattle.pm_close.proofs.RootedClosure.{one_closure}
use Rattle.pm_close.proofs.PlaneMap.{rooted_closure}
use Rattle.pm_euler.specs.Closed.{IsCanonicalClosure}

pub canonical_closure_is_rooted : (word : List ℕ) (map : RotationSystem) → IsBlossoming word → IsBalanced (contour word) → IsCanonicalClosure word map → IsRootedMap map
canonical_closure_is_rooted word map tree balanced c =
    canonical_map_is_rooted c.closure map (rooted_closure word c.closure tree balanced c.is_closure) c.is_canonical

pub one_canonical_closure : (word : List ℕ) (map other : RotationSystem) → IsBlossoming word → IsBalanced (contour word) → IsCanonicalClosure word map → IsCanonicalClosure word other → map ≡ other
one_canonical_closure word map other tree balanced c d =
    let same : d.closure ≡ c.closure = one_closure word d.closure c.closure tree d.is_closure c.is_closure in
    canonical_map_is_unique c.closure map other (rooted_closure word c.closure tree balanced c.is_closure) c.is_canonical
    (subst (λ (m : RotationSystem). IsCanonicalOf m other) same d.is_canonical)
