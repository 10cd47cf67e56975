-- What holds of closures: a tree has one and no other, and that of a balanced tree is a rooted map.
use Rattle.std.specs.Prelude.{◌≡◌, ℕ, List}
use Rattle.pm_trees.specs.Word.{contour}
use Rattle.pm_trees.specs.Blossoming.{IsBlossoming}
use Rattle.pm_match.specs.Pair.{IsBalanced}
use Rattle.pm_map.specs.Rotation.{RotationSystem, IsRootedMap}
use Rattle.pm_close.specs.Closure.{IsClosed}

-- a blossoming tree has no two closures
abbrev pub HasOneClosure : Type 0
HasOneClosure = (word : List ℕ) (one other : RotationSystem) → IsBlossoming word → IsClosed (contour word) one → IsClosed (contour word) other → one ≡ other

-- a blossoming tree has a closure
abbrev pub EachTreeCloses : Type 0
EachTreeCloses = (word : List ℕ) → IsBlossoming word → (map : RotationSystem) × IsClosed (contour word) map

-- the closure of a balanced tree is a rooted map, so it is plane
abbrev pub ClosureIsRooted : Type 0
ClosureIsRooted = (word : List ℕ) (map : RotationSystem) → IsBlossoming word → IsBalanced (contour word) → IsClosed (contour word) map → IsRootedMap map
