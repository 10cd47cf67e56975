-- How far the faces of a map are from the root's face, as a list.
use Rattle.std.specs.Prelude.{◌≡◌, ℕ, ◌<◌, List, length, slice_index}
use Rattle.pm_map.specs.Rotation.{RotationSystem, structure_of}
use Rattle.pm_map.specs.FaceDistance.{IsFaceDistance}

-- entry d is the distance of the face of dart d from the root's face
pub record AreFaceDistances (map : RotationSystem) (distances : List ℕ) : Type 0 where
  pub as_long : length distances ≡ length map.sigma
  pub each : (d : ℕ) → d < length map.sigma → IsFaceDistance (structure_of map) map.root d (slice_index distances d)
