-- Numbers in texts: the decimal digits of a number of 64 bits, in their one spelling.
use Rattle.std.specs.Prelude.{◌≡◌, ℕ, ◌<◌, ◌≤◌, ◌^◌, ◌↔◌, List, length, slice_index, take, decimal}
use Rattle.std.specs.Int.{IsInRange}
use Rattle.std.specs.Str.Parse.{AllDigits, IsNumeral, digits_value}

-- the word spells the number: it is `0`, or decimal digits without a leading zero, and the number that
-- they write is at most 18446744073709551615
pub record IsNumber (word : List ℕ) (number : ℕ) : Type 0 where
  pub numeral : IsNumeral 10 word
  pub no_leading_zero : slice_index word 0 ≡ 48 → length word ≡ 1
  pub value : digits_value 10 word ≡ number
  pub fits : number < 2 ^ 64

-- a number of 64 bits has one spelling, the decimal digits that are printed of it, and other numbers have none
abbrev pub HasOneSpelling : Type 0
HasOneSpelling = (word : List ℕ) (number : ℕ) → IsNumber word number ↔ ((number < 2 ^ 64) × (word ≡ decimal number))

-- a decimal digit stands at the place (48 is `0`, 57 is `9`)
pub record HasDigit (bytes : List ℕ) (place : ℕ) : Type 0 where
  pub within : place < length bytes
  pub digit : IsInRange 48 57 (slice_index bytes place)

-- so many bytes at the prefix are digits, and they write this number
pub record ReadsDigits (bytes : List ℕ) (count value : ℕ) : Type 0 where
  pub within : count ≤ length bytes
  pub digits : AllDigits 10 (take count bytes)
  pub value_is : value ≡ digits_value 10 (take count bytes)
  pub fits : value < 2 ^ 64

-- the same, and no digit stands after them
pub record AreLeadingDigits (bytes : List ℕ) (value count : ℕ) : Type 0 where
  pub read : ReadsDigits bytes count value
  pub ends : ¬ HasDigit bytes count

-- so many bytes at the prefix spell the number, and no digit stands after them
pub record IsLeadingNumber (bytes : List ℕ) (number count : ℕ) : Type 0 where
  pub within : count ≤ length bytes
  pub word : IsNumber (take count bytes) number
  pub ends : ¬ HasDigit bytes count
