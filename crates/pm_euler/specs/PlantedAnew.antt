-- A tree planted anew at one of its two free leaves.
use Rattle.std.specs.Prelude.{ℕ, List}
use Rattle.pm_brackets.specs.PlantedAt.{IsChosen}
use Rattle.pm_trees.specs.PlantedAt.{IsPlantedAt}
use Rattle.pm_match.specs.Pair.{IsFree}

-- the free leaf of this number; there are two
abbrev pub IsFreeLeaf : List ℕ → ℕ → ℕ → Type 0
IsFreeLeaf places free place = IsChosen (IsFree places) free place

-- the tree planted at its free leaf of this number; its old plant is now the leaf numbered so
abbrev pub IsPlantedAnew : List ℕ → ℕ → List ℕ → ℕ → Type 0
IsPlantedAnew word free turned old_plant = IsPlantedAt IsFree word free turned old_plant
