-- A stem tree planted anew at one of the two stems that start runs.
use Rattle.std.specs.Prelude.{ℕ, List}
use Rattle.pm_brackets.specs.PlantedAt.{IsChosen, IsPlantedAt}
use Rattle.pm_tri.specs.declared.letters.TheConstants.{STEM}
use Rattle.pm_tri.specs.Runs.{IsRunStart}

-- the stem of this number of the two that start runs
abbrev pub IsStartOfRun : List ℕ → ℕ → ℕ → Type 0
IsStartOfRun places run place = IsChosen (IsRunStart places) run place

-- the tree planted at it; its old plant is now the stem numbered so
abbrev pub IsPlantedAnew : List ℕ → ℕ → List ℕ → ℕ → Type 0
IsPlantedAnew word run turned old_plant = IsPlantedAt STEM IsRunStart word run turned old_plant
