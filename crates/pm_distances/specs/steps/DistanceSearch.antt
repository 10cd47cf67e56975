-- The search for the distances of the faces. Marked darts are found; all that are found stand in a list, those of a face
-- together and the nearest face first; and the edges of the darts before a place have been gone over.
use Rattle.std.specs.Prelude.{◌≡◌, ℕ, suc, ◌*◌, ◌<◌, ◌≤◌, ◌⊎◌, Bool, List, ◌++◌, length, slice_index, Contains}
use Rattle.pm_map.specs.Structure.{Structure, face_next}
use Rattle.pm_map.specs.Rotation.{RotationSystem, structure_of, twin}
use Rattle.pm_map.specs.steps.Marks.{IsMarked}
use Rattle.pm_map.specs.steps.Search.{work_left, WalksFace}
use Rattle.pm_map.specs.FaceDistance.{AreInOneFace}

-- A walk around the face of `start` that stands at `dart`: the darts that it marks get this distance, and are appended to
-- the list.
pub record WritesFace (sigma : List ℕ) (start distance dart : ℕ) (marks : List Bool) (distances darts : List ℕ) (marks_after : List Bool) (distances_after darts_after : List ℕ) : Type 0 where
  pub walk : WalksFace sigma start dart marks darts marks_after darts_after
  pub as_long : length distances_after ≡ length distances
  pub kept : (d : ℕ) → IsMarked marks d → slice_index distances_after d ≡ slice_index distances d
  pub written : (d : ℕ) → IsMarked marks_after d → IsMarked marks d ⊎ (slice_index distances_after d ≡ distance)
  pub added : List ℕ
  pub order : darts_after ≡ darts ++ added
  pub level : (d : ℕ) → Contains added d → slice_index distances_after d ≡ distance

-- the walk stands at a marked dart
pub record FindsFace (sigma : List ℕ) (start distance : ℕ) (marks : List Bool) (distances darts : List ℕ) (marks_after : List Bool) (distances_after darts_after : List ℕ) : Type 0 where
  pub dart : ℕ
  pub writes : WritesFace sigma start distance dart marks distances darts marks_after distances_after darts_after
  pub ended : IsMarked marks_after dart

-- the darts that are marked are those of the list
pub record IsListed (s : Structure) (marks : List Bool) (darts : List ℕ) : Type 0 where
  pub below : (d : ℕ) → Contains darts d → d < s.darts
  pub marked : (d : ℕ) → Contains darts d → IsMarked marks d
  pub stands : (d : ℕ) → IsMarked marks d → Contains darts d

-- faces are found whole, with one distance for all their darts
pub record FindsWhole (s : Structure) (marks : List Bool) (distances : List ℕ) : Type 0 where
  pub onward : (d : ℕ) → d < s.darts → IsMarked marks d → IsMarked marks (face_next s d)
  pub around : (d : ℕ) → d < s.darts → IsMarked marks d → slice_index distances (face_next s d) ≡ slice_index distances d

-- some dart of the face has its twin in a face that is found and is one nearer
pub record IsFoundFrom (s : Structure) (marks : List Bool) (distances : List ℕ) (d : ℕ) : Type 0 where
  pub dart : ℕ
  pub within : dart < s.darts
  pub one_face : AreInOneFace s d dart
  pub found : IsMarked marks dart
  pub found_beyond : IsMarked marks (s.twin dart)
  pub nearer : suc (slice_index distances (s.twin dart)) ≡ slice_index distances dart

-- the root's face is found, and no other has distance 0; each other that is found was found from a nearer one
pub record FindsFromRoot (s : Structure) (marks : List Bool) (distances : List ℕ) : Type 0 where
  pub root : IsMarked marks s.root
  pub at_root : slice_index distances s.root ≡ 0
  pub lowest : (d : ℕ) → IsMarked marks d → slice_index distances d ≡ 0 → AreInOneFace s s.root d
  pub nearer : (d : ℕ) → d < s.darts → IsMarked marks d → 0 < slice_index distances d → IsFoundFrom s marks distances d

-- along the list distances never fall, none is above its place, and none is more than one above that at the place
pub record IsRising (distances darts : List ℕ) (place : ℕ) : Type 0 where
  pub rises : (j k : ℕ) → j ≤ k → k < length darts → slice_index distances (slice_index darts j) ≤ slice_index distances (slice_index darts k)
  pub few : (k : ℕ) → k < length darts → slice_index distances (slice_index darts k) ≤ k
  pub near : (k : ℕ) → k < length darts → place < length darts → slice_index distances (slice_index darts k) ≤ suc (slice_index distances (slice_index darts place))

-- the state of the search: across each edge that has been gone over the face is found, and at most one further
pub record IsFinding (map : RotationSystem) (marks : List Bool) (distances darts : List ℕ) (place : ℕ) : Type 0 where
  pub marks_size : length marks ≡ length map.sigma
  pub distances_size : length distances ≡ length map.sigma
  pub within : place ≤ length darts
  pub work : work_left marks darts ≤ 2 * length map.sigma
  pub listed : IsListed (structure_of map) marks darts
  pub whole : FindsWhole (structure_of map) marks distances
  pub from_root : FindsFromRoot (structure_of map) marks distances
  pub rising : IsRising distances darts place
  pub found : (k : ℕ) → k < place → IsMarked marks (twin (slice_index darts k))
  pub across : (k : ℕ) → k < place → slice_index distances (twin (slice_index darts k)) ≤ suc (slice_index distances (slice_index darts k))
