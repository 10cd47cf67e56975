-- The laws of duals.
use Rattle.std.specs.Prelude.{◌≡◌, ◌↔◌, ℕ, ◌<◌, length, slice_index}
use Rattle.pm_map.specs.Structure.{Structure, IsStructure, Same, dual, face_next}
use Rattle.pm_map.specs.Plane.{vertices, faces}
use Rattle.pm_map.specs.Rotation.{RotationSystem, IsRootedMap, twin}
use Rattle.pm_map.specs.CycleSize.{IsCycleSize}
use Rattle.pm_map.specs.Classes.{degree_of}

-- the dual map has the face rule as its rotation, on the same darts and with the same root
pub record IsDualOf (m other : RotationSystem) : Type 0 where
  pub as_long : length other.sigma ≡ length m.sigma
  pub entry : (d : ℕ) → d < length m.sigma → slice_index other.sigma d ≡ slice_index m.sigma (twin d)
  pub root : other.root ≡ m.root

-- the dual of a structure is a structure
abbrev pub DualIsStructure : Type 0
DualIsStructure = (s : Structure) → IsStructure s → IsStructure (dual s)

-- the dual of a rooted map is a rooted map
abbrev pub DualIsRooted : Type 0
DualIsRooted = (m other : RotationSystem) → IsRootedMap m → IsDualOf m other → IsRootedMap other

-- vertices and faces change places
abbrev pub DualExchangesCounts : Type 0
DualExchangesCounts = (s : Structure) → IsStructure s → (vertices (dual s) ≡ faces s) × (faces (dual s) ≡ vertices s)

-- structures are the same exactly where their duals are
abbrev pub DualsTell : Type 0
DualsTell = (a b : Structure) → IsStructure a → IsStructure b → (Same a b ↔ Same (dual a) (dual b))

-- the dual of the dual is the same
abbrev pub DualTwiceIsSame : Type 0
DualTwiceIsSame = (s : Structure) → IsStructure s → Same s (dual (dual s))

-- the least number of steps around a face that lead back to a dart is the number of its darts
abbrev pub FaceDegreeCountsDarts : Type 0
FaceDegreeCountsDarts = (s : Structure) (d degree : ℕ) → IsStructure s → d < s.darts → (IsCycleSize (face_next s) d degree ↔ (degree_of (dual s) d ≡ degree))
