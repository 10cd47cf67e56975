-- The laws of the runs of stem trees.
use Rattle.std.specs.Prelude.{ℕ, ◌<◌, ◌↔◌, List, length}
use Rattle.pm_brackets.specs.PlantedAt.{AreTwo}
use Rattle.pm_brackets.specs.Ring.{place_from}
use Rattle.pm_tri.specs.Replanting.{IsReplanted}
use Rattle.pm_tri.specs.Runs.{IsBalanced, IsBelow, IsRunStart}
use Rattle.pm_tri.specs.StemTree.{IsStemTree, contour}

-- in each stem tree exactly two stems start runs
abbrev pub TwoRuns : Type 0
TwoRuns = (word : List ℕ) → IsStemTree word → AreTwo (IsRunStart (contour word))

-- a stem of the replanted tree starts a run where it did, at its old place
abbrev pub RunStartsAreTurned : Type 0
RunStartsAreTurned = (word : List ℕ) (stem : ℕ) (replanted : List ℕ) → IsStemTree word → (r : IsReplanted word stem replanted)
    → (place : ℕ) → place < length (contour word) → (IsRunStart (contour replanted) place ↔ IsRunStart (contour word) (place_from (contour word) r.start place))

-- so a tree is balanced where it is planted at a stem that starts a run
abbrev pub RunStartBalances : Type 0
RunStartBalances = (word : List ℕ) (stem : ℕ) (replanted : List ℕ) → IsStemTree word → (r : IsReplanted word stem replanted)
    → (IsBalanced (contour replanted) ↔ IsRunStart (contour word) r.start)

-- a tree is balanced where its last letter is a stem and no prefix of its contour has more sides than stems
abbrev pub BalancedIsBelow : Type 0
BalancedIsBelow = (word : List ℕ) → IsStemTree word → (IsBalanced (contour word) ↔ IsBelow (contour word))
