-- A ring of places, read cyclically from one of them on; and so a word that is planted anew, at another place of its plant's
-- letter.
use Rattle.std.specs.Prelude.{◌≡◌, ◌≢◌, ◌⊎◌, ℕ, ◌+◌, ◌-◌, ◌%◌, ◌<◌, List, ◌∷◌, length, slice_index}
use Rattle.pm_brackets.specs.declared.letters.TheConstants.{OPEN, CLOSE}
use Rattle.pm_brackets.specs.Word.{IsBracketPair, IsLetterAt}

-- the place that is met after so many steps, from a start on, cyclically
abbrev pub place_from : List ℕ → ℕ → ℕ → ℕ
place_from places start steps = (start + steps) % length places

-- the two brackets of an edge, in one order or the other
abbrev pub AreBrackets : List ℕ → ℕ → ℕ → Type 0
AreBrackets places p q = IsBracketPair places p q ⊎ IsBracketPair places q p

-- The places read cyclically from a start on: other letters stay, and of the two brackets of an edge the one that is met
-- first is the `(`, and the other one the `)` that closes it.
pub record IsTurned (places : List ℕ) (start : ℕ) (turned : List ℕ) : Type 0 where
  pub as_long : length turned ≡ length places
  pub letters : (p : ℕ) → p < length places → slice_index places (place_from places start p) ≢ OPEN → slice_index places (place_from places start p) ≢ CLOSE
      → slice_index turned p ≡ slice_index places (place_from places start p)
  pub brackets : (p q : ℕ) → p < q → q < length places → AreBrackets places (place_from places start p) (place_from places start q) → IsBracketPair turned p q

-- of so many places of a letter, numbered from 0 around the ring, the number of one where that of another number becomes the
-- first
abbrev pub number_after : ℕ → ℕ → ℕ → ℕ
number_after total first number = (number + (total - first)) % total

-- the word whose ring is read from the plant's letter of this number on, the plant being number 0
pub record IsReplantedAt (plant : ℕ) (word : List ℕ) (number : ℕ) (planted : List ℕ) : Type 0 where
  pub start : ℕ
  pub is_start : IsLetterAt plant (plant ∷ word) number start
  pub is_turned : IsTurned (plant ∷ word) start (plant ∷ planted)
