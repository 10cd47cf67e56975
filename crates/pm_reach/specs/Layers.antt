-- The layers of the faces of a map: how far each face is from the root's face, and a dart that leads nearer.
use Rattle.std.specs.Prelude.{◌≡◌, ℕ, suc, ◌<◌, List, length, slice_index}
use Rattle.pm_perm.specs.Least.{IsLeast}
use Rattle.pm_map.specs.Structure.{Structure}
use Rattle.pm_map.specs.Rotation.{RotationSystem, structure_of}
use Rattle.pm_map.specs.FaceDistance.{AreInOneFace, IsFaceDistance}
use Rattle.pm_distances.specs.Distances.{AreFaceDistances}

-- the dart is in the face of d, and its twin is in a face that is one nearer to the root's face
pub record LeadsNearer (s : Structure) (d dart : ℕ) : Type 0 where
  pub one_face : AreInOneFace s d dart
  pub distance : ℕ
  pub here : IsFaceDistance s s.root d (suc distance)
  pub beyond : IsFaceDistance s s.root (s.twin dart) distance

-- the parent of the face of d: the root for the root's face, and for another the least of its darts that lead nearer
pub data IsParent (s : Structure) (d : ℕ) : ℕ → Type 0 where
  of_root : AreInOneFace s s.root d → IsParent s d s.root
  of_other : (dart : ℕ) → IsLeast s.darts (λ e. LeadsNearer s d e → ⊥) (LeadsNearer s d) dart → IsParent s d dart

-- entry d is the parent of the face of dart d
pub record AreParents (s : Structure) (parents : List ℕ) : Type 0 where
  pub as_long : length parents ≡ s.darts
  pub each : (d : ℕ) → d < s.darts → IsParent s d (slice_index parents d)

-- what contracts see of layers
pub record Layers : Type 0 where
  pub distances : List ℕ
  pub parents : List ℕ

-- the layers of a map
pub record AreLayers (map : RotationSystem) (layers : Layers) : Type 0 where
  pub distances : AreFaceDistances map layers.distances
  pub parents : AreParents (structure_of map) layers.parents
