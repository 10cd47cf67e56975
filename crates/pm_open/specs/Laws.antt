-- Every plane map with a dart and even degrees opens, and in one way; what an opening keeps.
use Rattle.std.specs.Prelude.{◌≡◌, ℕ, ◌/◌, ◌<◌, List, length}
use Rattle.pm_limits.specs.declared.TheConstants.{MAX_DEGREE}
use Rattle.pm_trees.specs.Word.{contour}
use Rattle.pm_trees.specs.Blossoming.{IsBlossoming, edges}
use Rattle.pm_trees.specs.Degrees.{nodes_of}
use Rattle.pm_match.specs.Pair.{IsBalanced}
use Rattle.pm_map.specs.declared.admitted.Degrees.TheVariants.{EvenUpTo}
use Rattle.pm_map.specs.Structure.{Structure}
use Rattle.pm_map.specs.Rotation.{RotationSystem, IsRootedMap, structure_of}
use Rattle.pm_map.specs.FaceDistance.{IsFaceDistance}
use Rattle.pm_map.specs.Classes.{vertices_of_degree}
use Rattle.pm_map.specs.ClassRules.{AllAdmitted}
use Rattle.pm_close.specs.declared.closing.Closed.{Closed}
use Rattle.pm_close.specs.Closing.{ClosesTo}
use Rattle.pm_close.specs.Closure.{IsClosure}
use Rattle.pm_close.specs.Level.{IsLevel}
use Rattle.pm_distances.specs.Distances.{AreFaceDistances}
use Rattle.pm_open.specs.Opening.{IsOpening}

-- a rooted map with a dart whose vertices have even degrees within the limit has an opening
abbrev pub EachMapOpens : Type 0
EachMapOpens = (map : RotationSystem) → IsRootedMap map → 0 < length map.sigma → AllAdmitted (structure_of map) (EvenUpTo MAX_DEGREE)
    → (word : List ℕ) × IsOpening map word

-- a rooted map has no two openings
abbrev pub HasOneOpening : Type 0
HasOneOpening = (map : RotationSystem) (one other : List ℕ) → IsRootedMap map → IsOpening map one → IsOpening map other → one ≡ other

-- the levels of places are the distances of their faces from the root's face
abbrev pub LevelsAreFaceDistances : Type 0
LevelsAreFaceDistances = (word : List ℕ) → IsBlossoming word → IsBalanced (contour word) → (closure : Structure) → IsClosure (contour word) closure
    → (p level : ℕ) → p < length (contour word) → IsLevel (contour word) p level → IsFaceDistance closure 0 p level

-- so the levels of a closed tree are the distances of the faces of its map
abbrev pub ClosedLevelsAreDistances : Type 0
ClosedLevelsAreDistances = (word : List ℕ) (closed : Closed) → IsBlossoming word → ClosesTo (contour word) closed → AreFaceDistances closed.map closed.levels

-- of each degree the map has as many vertices as its opening has nodes
abbrev pub OpeningKeepsDegrees : Type 0
OpeningKeepsDegrees = (map : RotationSystem) (word : List ℕ) → IsRootedMap map → IsOpening map word
    → (degree : ℕ) → vertices_of_degree (structure_of map) degree ≡ nodes_of word degree

-- and the map has as many edges as are counted in its opening
abbrev pub OpeningKeepsEdges : Type 0
OpeningKeepsEdges = (map : RotationSystem) (word : List ℕ) → IsOpening map word → edges word ≡ length map.sigma / 2
