-- The word of a plane tree with buds and leaves: its letters and its contour.
-- The plant is the leaf that the tree hangs on: place 0 of the contour. The k-th letter, from k = 1, stands at place k.
use Rattle.std.specs.Prelude.{ℕ, Bool, List, [], ◌∷◌}
use Rattle.pm_trees.specs.declared.letters.TheConstants.{LEAF, BUD}
use Rattle.pm_brackets.specs.Word.{IsFaultOf, IsWordOf, is_letter_of}

-- the letters beside the brackets
abbrev pub leaf_and_bud : List ℕ
leaf_and_bud = LEAF ∷ BUD ∷ []

-- one of the four letters
abbrev pub is_letter : ℕ → Bool
is_letter x = is_letter_of leaf_and_bud x

-- the plant, and then the letters of the word; a list of places, to be read cyclically
abbrev pub contour : List ℕ → List ℕ
contour word = LEAF ∷ word

-- the text of a word is in order: the four letters, and matched brackets
abbrev pub IsInOrder : List ℕ → Type 0
IsInOrder word = IsWordOf leaf_and_bud word

-- what can be wrong with the text of a word at a place of its contour: a letter that is none of the four, a bracket that
-- closes nothing, or the last bracket that isn't closed
abbrev pub IsFault : List ℕ → ℕ → Type 0
IsFault places place = IsFaultOf leaf_and_bud places place
