-- A tree planted anew at one of two marked leaves, and the number of its old plant.
use Rattle.std.specs.Prelude.{ℕ, List}
use Rattle.pm_trees.specs.declared.letters.TheConstants.{LEAF}
use Rattle.pm_trees.specs.Blossoming.{IsBlossoming}
use Rattle.pm_brackets.specs.PlantedAt as words

-- the tree planted at its chosen leaf of this number; its old plant is now the leaf numbered so
abbrev pub IsPlantedAt : (List ℕ → ℕ → Type 0) → List ℕ → ℕ → List ℕ → ℕ → Type 0
IsPlantedAt chosen word number turned old_plant = words.IsPlantedAt LEAF chosen word number turned old_plant

-- in each tree exactly two leaves are marked, and the marks turn along with the ring
abbrev pub AreTwoMarks : (List ℕ → ℕ → Type 0) → Type 0
AreTwoMarks marked = words.AreTwoMarks LEAF IsBlossoming marked
