-- A stem tree planted anew where a run starts, so that it is balanced, and closed to a rooted map.
use Rattle.std.specs.Prelude.{ℕ, List}
use Rattle.pm_map.specs.Rotation.{IsRootedMap, RotationSystem, structure_of}
use Rattle.pm_tri.specs.StemTree.{contour}
use Rattle.pm_triclose.specs.Closure.{IsStemClosure}
use Rattle.pm_trisample.specs.PlantedAnew.{IsPlantedAnew}

-- the map is the closure of the tree planted at the start of the run of this number, whatever the names of its darts
pub record IsClosedAnew (word : List ℕ) (run : ℕ) (map : RotationSystem) (old_plant : ℕ) : Type 0 where
  pub rooted : IsRootedMap map
  pub turned : List ℕ
  pub is_anew : IsPlantedAnew word run turned old_plant
  pub is_closure : IsStemClosure (contour turned) (structure_of map)
