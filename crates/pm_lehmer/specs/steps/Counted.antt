-- Counts of numbers below a size, as a tree over the halves of the interval from 0 to the size: an interval of two
-- numbers or more is cut at its middle, and each number from 1 on is the middle of one interval. The count at
-- a middle is of the numbers from the start of its interval up to the middle, the middle left out.
use Rattle.std.specs.Prelude.{◌≡◌, ℕ, zero, suc, ◌+◌, ◌/◌, ◌<◌, ◌≤◌, List, length, slice_index, nat_lt, if◌then◌else◌}

-- the start of the interval, among this one and those that it is cut into, whose middle is the number
unfoldable pub start_from : ℕ → ℕ → ℕ → ℕ → ℕ
start_from zero low high number = low
start_from (suc turns) low high number =
    (if nat_lt number ((low + high) / 2) then start_from turns low ((low + high) / 2) number else
    (if nat_lt ((low + high) / 2) number then start_from turns ((low + high) / 2) high number else low))

-- the start of the interval whose middle is the number
unfoldable pub start_of : ℕ → ℕ → ℕ
start_of size number = start_from size 0 size number

-- the counts are those of numbers of which `below x` are smaller than x
pub record IsCounted (counts : List ℕ) (below : ℕ → ℕ) : Type 0 where
  pub at_middle : (number : ℕ) → 0 < number → number < length counts → slice_index counts number + below (start_of (length counts) number) ≡ below number

-- the second count is that of so many more of one number
pub record IsMore (number many : ℕ) (fewer more : ℕ → ℕ) : Type 0 where
  pub same : (place : ℕ) → place ≤ number → more place ≡ fewer place
  pub raised : (place : ℕ) → number < place → more place ≡ fewer place + many
