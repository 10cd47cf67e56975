-- What the reading of a word's text finds first.
use Rattle.std.specs.Prelude.{ℕ, ◌-◌, ◌<◌, ◌≤◌, List, ◌∷◌, length, slice_index, IsTrue}
use Rattle.pm_brackets.specs.Word.{IsFaultOf, IsOther, is_letter_of}

-- the place, counted from 1, of a letter that is no bracket and isn't listed
pub record IsForeign (others word : List ℕ) (place : ℕ) : Type 0 where
  pub behind : 0 < place
  pub within : place ≤ length word
  pub breaks : IsTrue (is_letter_of others (slice_index word (place - 1))) → ⊥

-- the least fault at a letter that may stand there, so at a bracket
pub record IsUnmatched (others places : List ℕ) (place : ℕ) : Type 0 where
  pub behind : 0 < place
  pub here : IsFaultOf others places place
  pub least : (k : ℕ) → IsFaultOf others places k → (k < length places → IsTrue (is_letter_of others (slice_index places k))) → place ≤ k

-- the same on each plant, and whichever the other letters are
abbrev pub IsFirstUnmatched : List ℕ → ℕ → Type 0
IsFirstUnmatched word place = (others : List ℕ) (plant : ℕ) → IsOther plant → IsUnmatched others (plant ∷ word) place
