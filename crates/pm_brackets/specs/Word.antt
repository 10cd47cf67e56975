-- Words of matched brackets and other letters, and what it is for brackets to match. A word stands on a plant, a letter that
-- is no bracket: its places are those of the list of the plant and then the letters, so that the k-th letter, from k = 1,
-- stands at place k. Such a list is a ring, to be read cyclically.
use Rattle.std.specs.Prelude.{◌≡◌, ◌≢◌, ℕ, suc, ◌-◌, ◌<◌, ◌≤◌, Bool, ◌==◌, ◌||◌, List, ◌∷◌, length, slice_index, take, drop, count_by, All, IsTrue}
use Rattle.std.specs.List.{list_any}
use Rattle.pm_brackets.specs.First.{IsFirst}
use Rattle.pm_brackets.specs.declared.letters.TheConstants.{OPEN, CLOSE}

-- a letter that is no bracket
pub record IsOther (x : ℕ) : Type 0 where
  pub not_open : x ≡ OPEN → ⊥
  pub not_close : x ≡ CLOSE → ⊥

-- a bracket, or one of the other letters that are listed
abbrev pub is_letter_of : List ℕ → ℕ → Bool
is_letter_of others x = (x == OPEN) || (x == CLOSE) || list_any (λ y. y == x) others

-- how often the letter stands in the list
abbrev pub count : ℕ → List ℕ → ℕ
count letter letters = count_by (λ x. x == letter) letters

-- the letters strictly between two places
abbrev pub between : List ℕ → ℕ → ℕ → List ℕ
between places p q = take (q - suc p) (drop (suc p) places)

-- the brackets match: as many open as close, and in no prefix more close than open
pub record IsMatched (letters : List ℕ) : Type 0 where
  pub equal : count OPEN letters ≡ count CLOSE letters
  pub never_below : (k : ℕ) → count CLOSE (take k letters) ≤ count OPEN (take k letters)

-- the bracket at q closes the one at p
pub record IsBracketPair (places : List ℕ) (p q : ℕ) : Type 0 where
  pub opens : slice_index places p ≡ OPEN
  pub closes : slice_index places q ≡ CLOSE
  pub before : p < q
  pub matched : IsMatched (between places p q)

-- A list with the other bracket of each bracket, and with each other place itself.
pub record IsBracketing (places other : List ℕ) : Type 0 where
  pub as_long : length other ≡ length places
  pub of_open : (p : ℕ) → slice_index places p ≡ OPEN → IsBracketPair places p (slice_index other p)
  pub of_close : (p : ℕ) → slice_index places p ≡ CLOSE → IsBracketPair places (slice_index other p) p
  pub of_letter : (p : ℕ) → p < length places → slice_index places p ≢ OPEN → slice_index places p ≢ CLOSE → slice_index other p ≡ p

-- the letter stands at the place, and this often before it: so its places are numbered from 0
pub record IsLetterAt (letter : ℕ) (places : List ℕ) (number place : ℕ) : Type 0 where
  pub here : slice_index places place ≡ letter
  pub before : count letter (take place places) ≡ number

-- the text of a word is in order: brackets that match, and of the other letters only those that are listed
pub record IsWordOf (others word : List ℕ) : Type 0 where
  pub letters : All (λ x. IsTrue (is_letter_of others x)) word
  pub matched : IsMatched word

-- what can be wrong with the text of a word at one of its places
pub data IsFaultOf (others places : List ℕ) (place : ℕ) : Type 0 where
  -- a letter that is no bracket and isn't listed
  foreign : place < length places → (IsTrue (is_letter_of others (slice_index places place)) → ⊥) → IsFaultOf others places place
  -- a bracket that closes nothing
  stray : slice_index places place ≡ CLOSE → ((p : ℕ) → IsBracketPair places p place → ⊥) → IsFaultOf others places place
  -- the last bracket that isn't closed
  unclosed : slice_index places place ≡ OPEN → ((q : ℕ) → IsBracketPair places place q → ⊥)
      → ((p : ℕ) → place < p → slice_index places p ≡ OPEN → (q : ℕ) × IsBracketPair places p q) → IsFaultOf others places place

-- a fault of the text of a word on a plant, which isn't a letter of the text
pub record IsTextFault (others : List ℕ) (plant : ℕ) (word : List ℕ) (place : ℕ) : Type 0 where
  pub behind : 0 < place
  pub fault : IsFaultOf others (plant ∷ word) place

-- the least fault of the text of a word, whichever letter the plant is
abbrev pub IsFirstFault : List ℕ → List ℕ → ℕ → Type 0
IsFirstFault others word place = (plant : ℕ) → IsOther plant → IsFirst (IsTextFault others plant word) place
