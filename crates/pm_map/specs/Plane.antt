-- Plane maps: connected structures with Euler characteristic 2.
use Rattle.std.specs.Prelude.{◌≡◌, ℕ, ◌+◌, ◌/◌, ◌==◌, if◌then◌else◌, ℤ, pos, ◌-ℤ◌}
use Rattle.pm_perm.specs.Cycles.{cycles}
use Rattle.pm_map.specs.Structure.{Structure, IsStructure, IsConnected, face_next}

-- the number of vertices: of cycles of the rotation; the structure without darts has one
abbrev pub vertices : Structure → ℕ
vertices s = if s.darts == 0 then 1 else cycles s.darts s.next

-- the number of faces: of cycles of the face rule; the structure without darts has one
abbrev pub faces : Structure → ℕ
faces s = if s.darts == 0 then 1 else cycles s.darts (face_next s)

-- the number of edges: half the number of darts
abbrev pub edges : Structure → ℕ
edges s = s.darts / 2

-- vertices and faces are two more than edges
abbrev pub HasEulerTwo : Structure → Type 0
HasEulerTwo s = vertices s + faces s ≡ edges s + 2

-- The Euler characteristic: vertices less edges plus faces
abbrev pub euler_characteristic : Structure → ℤ
euler_characteristic s = pos (vertices s + faces s) -ℤ pos (edges s)

-- a plane structure
pub record IsPlane (s : Structure) : Type 0 where
  pub structure : IsStructure s
  pub connected : IsConnected s
  pub euler : HasEulerTwo s
