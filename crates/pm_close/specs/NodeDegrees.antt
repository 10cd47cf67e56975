-- The vertices of a closure have the degrees of the tree's nodes.
use Rattle.std.specs.Prelude.{◌≡◌, ℕ, ◌<◌, List, length, slice_index}
use Rattle.pm_trees.specs.Word.{contour}
use Rattle.pm_trees.specs.Node.{IsNode, degree}
use Rattle.pm_trees.specs.Degrees.{nodes_of}
use Rattle.pm_trees.specs.Blossoming.{IsBlossoming}
use Rattle.pm_match.specs.Pair.{IsBalanced}
use Rattle.pm_map.specs.Rotation.{RotationSystem, structure_of}
use Rattle.pm_map.specs.CycleSize.{IsCycleSize}
use Rattle.pm_map.specs.Classes.{vertices_of_degree}
use Rattle.pm_close.specs.Closure.{IsClosed}

-- the node has the degree of the vertex of dart d
pub record IsNodeOf (word : List ℕ) (map : RotationSystem) (d node : ℕ) : Type 0 where
  pub is_node : IsNode (contour word) node
  pub degree_is : IsCycleSize (slice_index map.sigma) d (degree (contour word) node)

-- Each vertex has the degree of a node, and of each degree there are as many vertices as nodes.
pub record HasNodeDegrees (word : List ℕ) (map : RotationSystem) : Type 0 where
  pub each : (d : ℕ) → d < length map.sigma → (node : ℕ) × IsNodeOf word map d node
  pub counts : (degree : ℕ) → vertices_of_degree (structure_of map) degree ≡ nodes_of word degree

-- a law: so it is for the closure of a balanced tree
abbrev pub DegreesAreKept : Type 0
DegreesAreKept = (word : List ℕ) (map : RotationSystem) → IsBlossoming word → IsBalanced (contour word) → IsClosed (contour word) map → HasNodeDegrees word map
