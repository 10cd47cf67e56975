-- What a dual exchanges: the degrees of vertices and faces, and so the classes of maps with even ones.
use Rattle.std.specs.Prelude.{ℕ, ◌<◌, ◌↔◌, List}
use Rattle.pm_map.specs.Structure.{Structure, IsStructure, dual, face_next}
use Rattle.pm_map.specs.Plane.{IsPlane}
use Rattle.pm_map.specs.CycleSize.{IsCycleSize}
use Rattle.pm_map.specs.Classes.{IsEulerian, IsBipartite}

-- the dual of a plane structure is plane
abbrev pub DualIsPlane : Type 0
DualIsPlane = (s : Structure) → IsPlane s → IsPlane (dual s)

-- the faces of the dual have the degrees of the vertices
abbrev pub DualExchangesDegrees : Type 0
DualExchangesDegrees = (s : Structure) (d degree : ℕ) → IsStructure s → d < s.darts → (IsCycleSize (face_next (dual s)) d degree ↔ IsCycleSize s.next d degree)

-- the dual of an eulerian map is bipartite, with the same degrees, and that of a bipartite map eulerian
abbrev pub DualExchangesClasses : Type 0
DualExchangesClasses = (s : Structure) (pairs : List (ℕ × ℕ)) → (IsEulerian s pairs → IsBipartite (dual s) pairs) × (IsBipartite s pairs → IsEulerian (dual s) pairs)
