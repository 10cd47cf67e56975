-- The meeting list: the vertices of a connected structure in the order in which they are met from the root.
use Rattle.std.specs.Prelude.{◌≡◌, ℕ, ◌<◌, List, [], ◌∷◌, ◌++◌, length, slice_index, Contains}
use Rattle.pm_map.specs.Structure.{Structure}
use Rattle.pm_perm.specs.CycleList.{IsCycleFrom}

-- the list is the vertex of d, from d on, each dart followed by the next around the vertex
abbrev pub IsVertexFrom : Structure → ℕ → List ℕ → Type 0
IsVertexFrom s d vertex = IsCycleFrom s.next d vertex

-- the dart stands in the list, at this place
pub record StandsAt (darts : List ℕ) (place dart : ℕ) : Type 0 where
  pub within : place < length darts
  pub here : slice_index darts place ≡ dart

-- the first dart of the list whose twin isn't in the list
pub record IsNextUnmet (s : Structure) (darts : List ℕ) (d : ℕ) : Type 0 where
  pub place : ℕ
  pub at : StandsAt darts place d
  pub unmet : Contains darts (s.twin d) → ⊥
  pub first : (k : ℕ) → k < place → Contains darts (s.twin (slice_index darts k))

-- the darts of some vertices, one vertex after another
abbrev pub darts_of : List (List ℕ) → List ℕ
darts_of [] = []
darts_of (vertex ∷ vertices) = vertex ++ darts_of vertices

-- Vertices met so far: first that of the root, from the root; then, again and again, that of the twin of the first dart
-- whose twin isn't met, from that twin.
pub data Meets (s : Structure) : List (List ℕ) → Type 0 where
  at_root : (vertex : List ℕ) → IsVertexFrom s s.root vertex → Meets s (vertex ∷ [])
  onward : (vertices : List (List ℕ)) (d : ℕ) (vertex : List ℕ) → Meets s vertices → IsNextUnmet s (darts_of vertices) d
      → IsVertexFrom s (s.twin d) vertex → Meets s (vertices ++ vertex ∷ [])

-- the meeting list, vertex by vertex: all that is met, and none where there is no dart
pub data IsMeetingList (s : Structure) : List (List ℕ) → Type 0 where
  no_dart : s.darts ≡ 0 → IsMeetingList s []
  complete : (vertices : List (List ℕ)) → 0 < s.darts → Meets s vertices
      → ((d : ℕ) → Contains (darts_of vertices) d → Contains (darts_of vertices) (s.twin d)) → IsMeetingList s vertices
