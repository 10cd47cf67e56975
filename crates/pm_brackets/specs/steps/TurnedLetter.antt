-- The letter of a turned ring at one place.
use Rattle.std.specs.Prelude.{◌≡◌, ◌≢◌, ℕ, ◌<◌, List, length, slice_index}
use Rattle.pm_brackets.specs.declared.letters.TheConstants.{OPEN, CLOSE}
use Rattle.pm_brackets.specs.Ring.{AreBrackets, place_from}

-- what it is for the places to be turned, of the letter at one place
pub record IsTurnedLetter (places : List ℕ) (start p letter : ℕ) : Type 0 where
  pub kept : slice_index places (place_from places start p) ≢ OPEN → slice_index places (place_from places start p) ≢ CLOSE → letter ≡ slice_index places (place_from places start p)
  pub opens : (q : ℕ) → p < q → q < length places → AreBrackets places (place_from places start p) (place_from places start q) → letter ≡ OPEN
  pub closes : (q : ℕ) → q < p → AreBrackets places (place_from places start p) (place_from places start q) → letter ≡ CLOSE
