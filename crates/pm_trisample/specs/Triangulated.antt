-- The class of simple triangulations, by their sizes.
use Rattle.std.specs.Prelude.{ℕ}
use Rattle.pm_map.specs.Classes.{IsTriangulation}
use Rattle.pm_map.specs.Rotation.{RotationSystem, structure_of}

-- the map is a simple triangulation of size n
abbrev pub IsTriangulated : ℕ → RotationSystem → Type 0
IsTriangulated n map = IsTriangulation (structure_of map) n
