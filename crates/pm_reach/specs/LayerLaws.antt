-- The laws of layers.
use Rattle.std.specs.Prelude.{◌≡◌, ℕ, List}
use Rattle.pm_trees.specs.Word.{contour}
use Rattle.pm_trees.specs.Blossoming.{IsBlossoming}
use Rattle.pm_map.specs.Rotation.{RotationSystem, IsRootedMap}
use Rattle.pm_close.specs.declared.closing.Closed.{Closed}
use Rattle.pm_close.specs.Closing.{ClosesTo}
use Rattle.pm_reach.specs.Layers.{Layers, AreLayers}

-- a rooted map has layers
abbrev pub EachMapHasLayers : Type 0
EachMapHasLayers = (map : RotationSystem) → IsRootedMap map → (layers : Layers) × AreLayers map layers

-- a rooted map has no two pairs of lists as its layers
abbrev pub MapHasOneLayers : Type 0
MapHasOneLayers = (map : RotationSystem) (one other : Layers) → IsRootedMap map → AreLayers map one → AreLayers map other → one ≡ other

-- in the closure of a balanced tree the distances are the levels that closing gives
abbrev pub ClosedLevelsAreLayers : Type 0
ClosedLevelsAreLayers = (word : List ℕ) (closed : Closed) (layers : Layers) → IsBlossoming word → ClosesTo (contour word) closed
    → AreLayers closed.map layers → layers.distances ≡ closed.levels
