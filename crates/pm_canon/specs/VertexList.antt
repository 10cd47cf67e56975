-- The meeting list as one list of darts, and how many of them each vertex has.
use Rattle.std.specs.Prelude.{◌≡◌, ℕ, List, length, map}
use Rattle.pm_map.specs.Structure.{Structure}
use Rattle.pm_map.specs.Rotation.{RotationSystem, structure_of}
use Rattle.pm_map.specs.Meeting.{IsMeetingList, darts_of}
use Rattle.pm_map.specs.Canonical.{IsCanonicalOf}

-- the darts are those of the meeting list, one vertex after another, and the sizes tell how many each has
pub record IsVertexList (s : Structure) (darts sizes : List ℕ) : Type 0 where
  pub vertices : List (List ℕ)
  pub is_list : IsMeetingList s vertices
  pub darts_are : darts ≡ darts_of vertices
  pub sizes_are : sizes ≡ map length vertices

-- the same of the canonical map
pub record IsCanonicalList (m : RotationSystem) (darts sizes : List ℕ) : Type 0 where
  pub canonical : RotationSystem
  pub is_canonical : IsCanonicalOf m canonical
  pub list : IsVertexList (structure_of canonical) darts sizes
