-- What holds of canonical maps: a rooted map has one, and so has a plane structure, whatever its twins. That there are no two
-- is a law of pm_map.
use Rattle.std.specs.Prelude.{ℕ, List}
use Rattle.pm_map.specs.Rotation.{RotationSystem, structure_of, IsRootedMap}
use Rattle.pm_map.specs.Structure.{Structure}
use Rattle.pm_map.specs.Canonical.{IsCanonicalForm, IsCanonicalOf}
use Rattle.pm_map.specs.CanonicalLaws.{IsSmallPlane}
use Rattle.pm_map.specs.Meeting.{IsMeetingList}

-- a rooted map has a canonical map
abbrev pub EachMapHasCanonical : Type 0
EachMapHasCanonical = (map : RotationSystem) → IsRootedMap map → (canonical : RotationSystem) × IsCanonicalOf map canonical

-- a plane structure with no more edges than a map may have has a canonical map
abbrev pub EachStructureHasCanonical : Type 0
EachStructureHasCanonical = (s : Structure) → IsSmallPlane s → (canonical : RotationSystem) × IsCanonicalForm s canonical

-- a rooted map has a meeting list
abbrev pub EachMapHasMeetingList : Type 0
EachMapHasMeetingList = (map : RotationSystem) → IsRootedMap map → (vertices : List (List ℕ)) × IsMeetingList (structure_of map) vertices
