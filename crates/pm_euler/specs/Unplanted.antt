-- Sampling undone to the tree: from a map and the number of the old plant back to the blossoming tree and the choice of its
-- free leaf.
use Rattle.std.specs.Prelude.{ℕ, ◌<◌, List}
use Rattle.pm_trees.specs.Blossoming.{IsBlossoming}
use Rattle.pm_map.specs.Rotation.{RotationSystem}
use Rattle.pm_open.specs.Opening.{IsOpening}
use Rattle.pm_euler.specs.PlantedAnew.{IsPlantedAnew}

-- The tree planted anew at its free leaf of this number is the opening of the map, so its closure is the map up to the names
-- of darts. Its old plant is now the leaf numbered so.
pub record IsUnplanted (map : RotationSystem) (old_plant : ℕ) (word : List ℕ) (free : ℕ) : Type 0 where
  pub blossoming : IsBlossoming word
  pub few : free < 2
  pub turned : List ℕ
  pub is_anew : IsPlantedAnew word free turned old_plant
  pub is_opening : IsOpening map turned
