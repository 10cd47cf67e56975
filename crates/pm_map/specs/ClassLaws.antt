-- The laws of the classes of maps.
use Rattle.std.specs.Prelude.{◌≡◌, ◌↔◌, ℕ, ◌<◌}
use Rattle.pm_map.specs.Structure.{Structure, IsStructure}
use Rattle.pm_map.specs.CycleSize.{IsCycleSize}
use Rattle.pm_map.specs.Simple.{IsLoop, IsDouble, IsSimple}
use Rattle.pm_map.specs.Classes.{degree_of}

-- the least number of steps around a vertex that lead back to a dart is the number of its darts
abbrev pub DegreeCountsDarts : Type 0
DegreeCountsDarts = (s : Structure) (d degree : ℕ) → IsStructure s → d < s.darts → (IsCycleSize s.next d degree ↔ (degree_of s d ≡ degree))

-- a structure is simple exactly where no dart's edge is a loop and none has a double
abbrev pub DartsTellSimple : Type 0
DartsTellSimple = (s : Structure) → IsStructure s → (IsSimple s ↔ ((d : ℕ) → d < s.darts → (IsLoop s d → ⊥) × (IsDouble s d → ⊥)))
