-- The leaves of a tree, numbered along the contour from the plant, which is leaf 0.
use Rattle.std.specs.Prelude.{ℕ, List}
use Rattle.pm_trees.specs.declared.letters.TheConstants.{LEAF}
use Rattle.pm_brackets.specs.Word.{IsLetterAt}

-- the leaf of this number stands at the place: so many leaves stand before it
abbrev pub IsLeafAt : List ℕ → ℕ → ℕ → Type 0
IsLeafAt places leaf place = IsLetterAt LEAF places leaf place
