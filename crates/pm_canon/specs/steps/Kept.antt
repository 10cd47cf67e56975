-- What a list of darts keeps while whole vertices are appended to it.
use Rattle.std.specs.Prelude.{◌≡◌, ℕ, ◌<◌, ◌≤◌, Bool, false, IsTrue, List, ◌++◌, length, slice_index, slice_index_or, Contains}
use Rattle.pm_map.specs.Structure.{Structure}
use Rattle.pm_map.specs.Meeting.{IsVertexFrom, Meets, darts_of}
use Rattle.pm_canon.specs.MeetingOrder.{HasEachOnce}

-- some dart of the list is followed by this one
pub record Precedes (s : Structure) (darts : List ℕ) (d : ℕ) : Type 0 where
  pub before : ℕ
  pub stands : Contains darts before
  pub leads : s.next before ≡ d

-- the list holds with a dart the whole vertex: the next dart and the one before
pub record IsWhole (s : Structure) (darts : List ℕ) : Type 0 where
  pub onward : (d : ℕ) → Contains darts d → Contains darts (s.next d)
  pub back : (d : ℕ) → Contains darts d → Precedes s darts d

-- exactly the darts of the list are marked
pub record MarksDarts (marks : List Bool) (darts : List ℕ) : Type 0 where
  pub marked : (d : ℕ) → Contains darts d → IsTrue (slice_index_or marks d false)
  pub stands : (d : ℕ) → IsTrue (slice_index_or marks d false) → Contains darts d

-- each dart stands once, the vertices are whole, and exactly these darts are marked
pub record IsKept (s : Structure) (marks : List Bool) (darts : List ℕ) : Type 0 where
  pub once : HasEachOnce s.darts darts
  pub whole : IsWhole s darts
  pub marking : MarksDarts marks darts

-- the list has the darts of some vertices behind those it had
pub record AppendsVertex (s : Structure) (start : ℕ) (old new : List ℕ) : Type 0 where
  pub vertex : List ℕ
  pub is_vertex : IsVertexFrom s start vertex
  pub order : new ≡ old ++ vertex

-- the list has the darts of the vertices met so far, and holds the twins of its first darts, up to this place
pub record IsMeeting (s : Structure) (marks : List Bool) (darts : List ℕ) (place : ℕ) : Type 0 where
  pub vertices : List (List ℕ)
  pub meets : Meets s vertices
  pub order : darts ≡ darts_of vertices
  pub within : place ≤ length darts
  pub twins : (k : ℕ) → k < place → Contains darts (s.twin (slice_index darts k))
  pub kept : IsKept s marks darts
