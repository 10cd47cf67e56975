-- Words of whole numbers, each at least -1, and where a cyclic word starts well. Where such a word sums to -g, g of
-- its starts are good: the cycle lemma (A. Dvoretzky and T. Motzkin, A problem of arrangements, 1947).
use Rattle.std.specs.Prelude.{◌≡◌, ℕ, ◌<◌, ℤ, pos, negsuc, ◌+ℤ◌, neg_ℤ, ◌<ℤ◌, ◌≤ℤ◌, List, ◌++◌, length, slice_index, slice_index_or, take, drop, fold}
use Rattle.std.specs.List.Sorted.{IsStrictlyIncreasing}

-- each letter is at least -1
pub record IsWord (word : List ℤ) : Type 0 where
  pub least : (place : ℕ) → place < length word → negsuc 0 ≤ℤ slice_index_or word place (pos 0)

-- the sum of the letters
abbrev pub sum_of : List ℤ → ℤ
sum_of word = fold ◌+ℤ◌ (pos 0) word

-- the list, read cyclically from this place on
abbrev pub turned : {X : Type 0} → ℕ → List X → List X
turned start entries = drop start entries ++ take start entries

-- the sum is -goal, and it is reached at the last letter only
pub record IsGood (goal : ℕ) (word : List ℤ) : Type 0 where
  pub sum : sum_of word ≡ neg_ℤ (pos goal)
  pub above : (prefix : ℕ) → prefix < length word → neg_ℤ (pos goal) <ℤ sum_of (take prefix word)

-- a place from which the word is good
pub record IsGoodStart (goal : ℕ) (word : List ℤ) (start : ℕ) : Type 0 where
  pub within : start < length word
  pub good : IsGood goal (turned start word)

-- all good starts, in rising order
pub record IsGoodStarts (goal : ℕ) (word : List ℤ) (starts : List ℕ) : Type 0 where
  pub as_many : length starts ≡ goal
  pub rising : IsStrictlyIncreasing starts
  pub good : (place : ℕ) → place < length starts → IsGoodStart goal word (slice_index starts place)
  pub all : (start : ℕ) → IsGoodStart goal word start → (place : ℕ) × (place < length starts) × (slice_index starts place ≡ start)

-- the least sum of a prefix that leaves a letter out
pub record IsLowest (word : List ℤ) (lowest : ℤ) : Type 0 where
  pub below : (prefix : ℕ) → prefix < length word → lowest ≤ℤ sum_of (take prefix word)
  pub reached : (prefix : ℕ) × (prefix < length word) × (sum_of (take prefix word) ≡ lowest)
