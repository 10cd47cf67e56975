-- How far the numbers of a line are read or put.
use Rattle.std.specs.Prelude.{◌≡◌, ◌≢◌, ℕ, ◌<◌, ◌≤◌, ◌^◌, List, ◌++◌, All, length, slice_index, take, drop}
use Rattle.pm_text.specs.Numeral.{HasDigit}
use Rattle.pm_lists.specs.Numbers.{spaced_numbers}

-- neither a digit nor a space comes first, so numbers before these bytes end with them
pub record EndsNumbers (tail : List ℕ) : Type 0 where
  pub no_digit : HasDigit tail 0 → ⊥
  pub no_space : 0 < length tail → slice_index tail 0 ≢ 32

-- where the numbers of the line are these, those after the ones that are read are still to come
pub record HasLater (numbers whole rest tail : List ℕ) : Type 0 where
  pub later : List ℕ
  pub whole_is : whole ≡ numbers ++ later
  pub rest_is : rest ≡ spaced_numbers later ++ tail

-- the bytes up to this place are a tag and these numbers. If all bytes are the tag, some numbers and what ends them, then
-- those numbers go on from there.
pub record IsReadingNumbers (tag bytes : List ℕ) (place : ℕ) (numbers : List ℕ) : Type 0 where
  pub within : place ≤ length bytes
  pub prefix : take place bytes ≡ tag ++ spaced_numbers numbers
  pub fit : All (λ number. number < 2 ^ 64) numbers
  pub onward : (whole tail : List ℕ) → All (λ number. number < 2 ^ 64) whole → EndsNumbers tail → bytes ≡ tag ++ (spaced_numbers whole ++ tail)
      → HasLater numbers whole (drop place bytes) tail

-- the numbers from one on stand at the end of the bytes, and there is room for those before it
pub record ArePut (numbers bytes : List ℕ) (left start : ℕ) : Type 0 where
  pub within : left ≤ length numbers
  pub room : length (spaced_numbers (take left numbers)) ≤ start
  pub inside : start ≤ length bytes
  pub put : drop start bytes ≡ spaced_numbers (drop left numbers)

-- something was appended, or nothing
pub record IsLonger (old new : List ℕ) : Type 0 where
  pub more : List ℕ
  pub appended : new ≡ old ++ more
