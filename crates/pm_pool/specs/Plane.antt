-- Plane regions: the live darts make one connected plane map, of which some darts may be stems (Edmonds 1960, Tutte 1963: maps
-- as rotations; Euler's formula).
use Rattle.std.specs.Prelude.{◌≡◌, ◌≢◌, ◌↔◌, ℕ, ◌+◌, ◌<◌, ◌&&◌, Bool, false, true, IsTrue, List, ◌∷◌, ◌++◌, eqb, set, slice_index}
use Rattle.pm_perm.specs.Count.{count_below}
use Rattle.pm_perm.specs.CycleList.{IsCycleFrom}
use Rattle.pm_perm.specs.Cycles.{leader, IsInCycle}
use Rattle.pm_perm.specs.PartMap.{PartMap, IsPartClosed, part_edges, part_face}
use Rattle.pm_pool.specs.Region.{IsLive, IsPaired, IsRegion, IsTaken, Region, is_live, live_darts, room}

-- the part map of all darts, in which a dart that isn't live is alone
abbrev pub part_of : Region → PartMap
part_of r = record { darts = room r; next = slice_index r.next; twin = slice_index r.twin }

-- the face rule: the next dart around the face is the one after the twin
abbrev pub face_rule : Region → ℕ → ℕ
face_rule r = part_face (part_of r)

-- How many cycles have a live dart. Where live darts lead to live ones, the leader of such a cycle, its least dart, is live, and
-- the cycle is counted there.
abbrev pub live_cycles : Region → (ℕ → ℕ) → ℕ
live_cycles r f = count_below (λ d. is_live r d && eqb (leader (room r) f d) d) (room r)

-- how many vertices, edges and faces: cycles of the rotation that have a live dart, pairs of different twins, and cycles of the
-- face rule that have a live dart
abbrev pub live_vertices : Region → ℕ
live_vertices r = live_cycles r (slice_index r.next)

abbrev pub live_edges : Region → ℕ
live_edges r = part_edges (part_of r)

abbrev pub live_faces : Region → ℕ
live_faces r = live_cycles r (face_rule r)

-- every set of darts, told by a test, that holds a live dart, and with a dart the next one and the twin, holds all live darts
abbrev pub AreLiveConnected : Region → Type 0
AreLiveConnected r = (holds : ℕ → Bool) → IsPartClosed (part_of r) holds → (from d : ℕ) → IsLive r from → IsLive r d → IsTrue (holds from) → IsTrue (holds d)

-- a region with a live dart, whose live darts are connected and plane
pub record IsPlaneRegion (r : Region) : Type 0 where
  pub region : IsRegion r
  pub some_live : 0 < live_darts r
  pub connected : AreLiveConnected r
  pub euler : live_vertices r + live_faces r ≡ live_edges r + 2

-- the face of a dart as a list, from that dart on
abbrev pub IsFaceFrom : Region → ℕ → List ℕ → Type 0
IsFaceFrom r d darts = IsCycleFrom (face_rule r) d darts

-- one dart of a region that had none is live, the one stem of the one vertex
pub record IsStarted (before after : Region) (d : ℕ) : Type 0 where
  pub plane : IsPlaneRegion after
  pub taken : IsTaken before after d

-- each face of a live dart is as before, but that of x
abbrev pub KeepsOtherFaces : Region → Region → ℕ → Type 0
KeepsOtherFaces before after x = (e : ℕ) (face : List ℕ) → IsLive before e → (IsInCycle (face_rule before) e x → ⊥) → (IsFaceFrom before e face ↔ IsFaceFrom after e face)

-- A dart d that wasn't live is a stem directly after `at`, and all other links are as they were. In one face d comes after the
-- twin of `at`, and the other faces stay.
pub record IsStemAdded (before after : Region) (at d : ℕ) : Type 0 where
  pub plane : IsPlaneRegion after
  pub within : d < room before
  pub was_dead : is_live before d ≡ false
  pub now_live : after.live ≡ set before.live d true
  pub same_twin : after.twin ≡ before.twin
  pub stem : slice_index after.twin d ≡ d
  pub after_at : slice_index after.next at ≡ d
  pub after_new : slice_index after.next d ≡ slice_index before.next at
  pub elsewhere : (e : ℕ) → e < room before → e ≢ at → e ≢ d → slice_index after.next e ≡ slice_index before.next e
  pub face : (rest : List ℕ) → IsFaceFrom before (slice_index before.twin at) (slice_index before.twin at ∷ rest)
      → IsFaceFrom after (slice_index before.twin at) (slice_index before.twin at ∷ d ∷ rest)
  pub other_faces : KeepsOtherFaces before after (slice_index before.twin at)

-- The stem d is closed out of its vertex and is live no more, and all other links are as they were. Its face, in which it comes
-- after the twin of the dart before it, is without it, and the other faces stay.
pub record IsStemDropped (before after : Region) (d : ℕ) : Type 0 where
  pub plane : IsPlaneRegion after
  pub live_no_more : after.live ≡ set before.live d false
  pub same_twin : after.twin ≡ before.twin
  pub closed : slice_index after.next (slice_index before.prev d) ≡ slice_index before.next d
  pub elsewhere : (e : ℕ) → e < room before → e ≢ d → e ≢ slice_index before.prev d → slice_index after.next e ≡ slice_index before.next e
  pub face : (rest : List ℕ) → IsFaceFrom before (slice_index before.twin (slice_index before.prev d)) (slice_index before.twin (slice_index before.prev d) ∷ d ∷ rest)
      → IsFaceFrom after (slice_index before.twin (slice_index before.prev d)) (slice_index before.twin (slice_index before.prev d) ∷ rest)
  pub other_faces : KeepsOtherFaces before after d

-- Two stems x and y of one face are twins, and all else is the same. The face, which from x on is x, `first`, y and `second`,
-- becomes that of x and `second` and that of y and `first`, and the other faces stay.
pub record IsEdgeJoined (before after : Region) (x y : ℕ) : Type 0 where
  pub plane : IsPlaneRegion after
  pub paired : IsPaired before after x y
  pub apart : IsInCycle (face_rule after) x y → ⊥
  pub faces : (first second : List ℕ) → IsFaceFrom before x (x ∷ first ++ y ∷ second) → IsFaceFrom after x (x ∷ second) × IsFaceFrom after y (y ∷ first)
  pub other_faces : KeepsOtherFaces before after x

-- The edge of x and y, whose faces differ, is made two stems, and all else is the same. The face of x and `second` and that of y
-- and `first` become one, which from x on is x, `first`, y and `second`; the other faces stay.
pub record IsEdgeCut (before after : Region) (x y : ℕ) : Type 0 where
  pub plane : IsPlaneRegion after
  pub parted : IsPaired after before x y
  pub one_face : IsInCycle (face_rule after) x y
  pub face : (first second : List ℕ) → IsFaceFrom before x (x ∷ second) → IsFaceFrom before y (y ∷ first) → IsFaceFrom after x (x ∷ first ++ y ∷ second)
  pub other_faces : (e : ℕ) (face : List ℕ) → IsLive before e → (IsInCycle (face_rule before) e x → ⊥) → (IsInCycle (face_rule before) e y → ⊥)
      → (IsFaceFrom before e face ↔ IsFaceFrom after e face)

-- A dart y that wasn't live is alone around a new vertex, and the twin of the stem x; all other links are as they were. In the
-- face of x it comes after x, and the other faces stay.
pub record IsEdgeGrown (before after : Region) (x y : ℕ) : Type 0 where
  pub plane : IsPlaneRegion after
  pub within : y < room before
  pub was_dead : is_live before y ≡ false
  pub now_live : after.live ≡ set before.live y true
  pub same_next : after.next ≡ before.next
  pub new_vertex : slice_index after.next y ≡ y
  pub first_twin : slice_index after.twin x ≡ y
  pub second_twin : slice_index after.twin y ≡ x
  pub elsewhere : (e : ℕ) → e < room before → e ≢ x → e ≢ y → slice_index after.twin e ≡ slice_index before.twin e
  pub face : (rest : List ℕ) → IsFaceFrom before x (x ∷ rest) → IsFaceFrom after x (x ∷ y ∷ rest)
  pub other_faces : KeepsOtherFaces before after x
