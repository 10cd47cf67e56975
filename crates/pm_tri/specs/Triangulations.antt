-- Simple triangulations by their sizes.
use Rattle.std.specs.Prelude.{◌≡◌, ℕ, ◌*◌, ◌<◌, ◌≤◌}
use Rattle.pm_limits.specs.declared.TheConstants.{MAX_EDGES}
use Rattle.pm_map.specs.Classes.{IsTriangulation}
use Rattle.pm_map.specs.Plane.{edges, faces}
use Rattle.pm_map.specs.Rotation.{IsRootedMap, RotationSystem, structure_of}

-- the sizes: from 1, and with no more edges than a map may have
pub record IsTriSize (n : ℕ) : Type 0 where
  pub some : 0 < n
  pub few : 3 * n ≤ MAX_EDGES

-- by Euler's rule a triangulation of size n has 3n edges and 2n faces
pub record HasEdgesAndFaces (map : RotationSystem) (n : ℕ) : Type 0 where
  pub edges_are : edges (structure_of map) ≡ 3 * n
  pub faces_are : faces (structure_of map) ≡ 2 * n

abbrev pub TriangulationsHaveEdges : Type 0
TriangulationsHaveEdges = (map : RotationSystem) (n : ℕ) → IsRootedMap map → IsTriangulation (structure_of map) n → HasEdgesAndFaces map n
