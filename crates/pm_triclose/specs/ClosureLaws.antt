-- The laws of closures.
use Rattle.std.specs.Prelude.{◌≡◌, ℕ, ◌+◌, ◌*◌, ◌<◌, ◌↔◌, List}
use Rattle.pm_map.specs.Classes.{IsTriangulation}
use Rattle.pm_map.specs.CycleSize.{IsCycleSize}
use Rattle.pm_map.specs.Plane.{IsPlane, edges, faces, vertices}
use Rattle.pm_map.specs.Rotation.{IsRootedMap, RotationSystem, structure_of}
use Rattle.pm_map.specs.Simple.{IsSimple}
use Rattle.pm_map.specs.Structure.{Same, Structure, dual}
use Rattle.pm_tri.specs.Replanting.{IsReplanted}
use Rattle.pm_tri.specs.Runs.{IsBalanced}
use Rattle.pm_tri.specs.StemTree.{IsStemTree, contour, nodes}
use Rattle.pm_tri.specs.Whole.{whole}
use Rattle.pm_triclose.specs.Closure.{IsStemClosure}
use Rattle.pm_triclose.specs.WholeClosure.{IsWholeClosure}

-- a structure is the closure of a balanced stem tree exactly where it is that of its whole tree
abbrev pub ClosuresAreWhole : Type 0
ClosuresAreWhole = (word : List ℕ) (s : Structure) → IsStemTree word → IsBalanced (contour word) → (IsStemClosure (contour word) s ↔ IsWholeClosure (contour (whole word)) s)

-- a balanced stem tree has one closure, but for the names of darts
abbrev pub ClosuresAreSame : Type 0
ClosuresAreSame = (word : List ℕ) (one other : Structure) → IsStemTree word → IsBalanced (contour word) → IsStemClosure (contour word) one → IsStemClosure (contour word) other → Same one other

-- a plane structure with 3n edges, n + 2 vertices and 2n faces
pub record IsPlaneOfSize (s : Structure) (n : ℕ) : Type 0 where
  pub plane : IsPlane s
  pub darts_are : s.darts ≡ 6 * n
  pub edges_are : edges s ≡ 3 * n
  pub vertices_are : vertices s ≡ n + 2
  pub faces_are : faces s ≡ 2 * n

-- the closure of a tree with n nodes is one
abbrev pub ClosuresArePlane : Type 0
ClosuresArePlane = (word : List ℕ) (s : Structure) → IsStemTree word → IsBalanced (contour word) → IsStemClosure (contour word) s → IsPlaneOfSize s (nodes word)

-- so a rotation and a root whose structure is the closure are a rooted map
abbrev pub ClosuresAreMaps : Type 0
ClosuresAreMaps = (word : List ℕ) (map : RotationSystem) → IsStemTree word → IsBalanced (contour word) → IsStemClosure (contour word) (structure_of map) → IsRootedMap map

-- each face of the closure has degree 3
abbrev pub ClosureFacesAreTriangles : Type 0
ClosureFacesAreTriangles = (word : List ℕ) (s : Structure) → IsStemTree word → IsBalanced (contour word) → IsStemClosure (contour word) s → (d : ℕ) → d < s.darts → IsCycleSize (dual s).next d 3

-- a structure that is the same as a closure is a closure too
abbrev pub ClosuresAreRenamed : Type 0
ClosuresAreRenamed = (places : List ℕ) (one other : Structure) → Same one other → IsStemClosure places one → IsStemClosure places other

-- each balanced stem tree has a closure: a rotation with the root 0
abbrev pub EachBalancedTreeCloses : Type 0
EachBalancedTreeCloses = (word : List ℕ) → IsStemTree word → IsBalanced (contour word) → (sigma : List ℕ) × IsStemClosure (contour word) (structure_of (record { sigma = sigma; root = 0 }))

-- a stem tree, planted at one of its stems where it is balanced and closes
pub record HasClosure (word : List ℕ) : Type 0 where
  pub stem : ℕ
  pub planted : List ℕ
  pub is_planted : IsReplanted word stem planted
  pub balanced : IsBalanced (contour planted)
  pub sigma : List ℕ
  pub closure : IsStemClosure (contour planted) (structure_of (record { sigma = sigma; root = 0 }))

-- each stem tree has
abbrev pub EachTreeBalances : Type 0
EachTreeBalances = (word : List ℕ) → IsStemTree word → HasClosure word

-- the closure has no loop, and no two edges with the same ends
abbrev pub ClosuresAreSimple : Type 0
ClosuresAreSimple = (word : List ℕ) (s : Structure) → IsStemTree word → IsBalanced (contour word) → IsStemClosure (contour word) s → IsSimple s

-- so that of a tree with n nodes is a triangulation of size n
abbrev pub ClosuresAreTriangulations : Type 0
ClosuresAreTriangulations = (word : List ℕ) (s : Structure) → IsStemTree word → IsBalanced (contour word) → IsStemClosure (contour word) s → IsTriangulation s (nodes word)
