-- A set of numbers in words of 64 bits, with a tree of counts over the words.
use Rattle.std.specs.Prelude.{◌≡◌, ℕ, ◌+◌, ◌*◌, ◌%◌, ◌^◌, ◌<◌, ◌≤◌, List, length, slice_index, count_ones}
use Rattle.std.specs.Int.{bit_at}
use Rattle.pm_lehmer.specs.steps.Counted.{IsCounted}

-- how many ones of the word are below the bit
unfoldable pub ones_below : ℕ → ℕ → ℕ
ones_below word bit = count_ones (word % 2 ^ bit)

-- the bit of the word is one and has so many ones below it
pub record IsBitOfRank (word rank bit : ℕ) : Type 0 where
  pub inside : bit < 64
  pub one : bit_at word bit ≡ 1
  pub ranked : ones_below word bit ≡ rank

-- the words, and the counts over them, are of numbers of which `below x` are smaller than x
pub record IsHeld (words counts : List ℕ) (below : ℕ → ℕ) : Type 0 where
  pub counted : IsCounted counts (λ word. below (64 * word))
  pub in_word : (word bit : ℕ) → word < length words → bit ≤ 64 → below (64 * word + bit) ≡ below (64 * word) + ones_below (slice_index words word) bit

-- a number in the set has so many smaller ones beside it
pub record HasRank (words counts : List ℕ) (rank : ℕ) : Type 0 where
  pub below : ℕ → ℕ
  pub held : IsHeld words counts below
  pub none : below 0 ≡ 0
  pub less : rank < below (64 * length words)
