-- Replanting: the same plane tree, planted at another of its leaves. Its contour is the old one, read cyclically from that
-- leaf on.
use Rattle.std.specs.Prelude.{ℕ, List}
use Rattle.pm_trees.specs.declared.letters.TheConstants.{LEAF}
use Rattle.pm_brackets.specs.Ring.{IsReplantedAt}

-- the word of the tree planted at the leaf of this number
abbrev pub IsReplanted : List ℕ → ℕ → List ℕ → Type 0
IsReplanted word leaf replanted = IsReplantedAt LEAF word leaf replanted
