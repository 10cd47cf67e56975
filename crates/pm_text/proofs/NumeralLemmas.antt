-- Each number has one spelling, and a word spells at most one number.
use Rattle.std.proofs.Common.{◌≡◌, ℕ, ◌+◌, ◌*◌, ◌-◌, ◌^◌, ◌<◌, ◌≤◌, List, length, take, get_or, sym, ap, ◌∙◌, subst, inl, inr, arith}
use Rattle.std.specs.Prelude.{decimal}
use Rattle.std.specs.Str.Parse.{AllDigits, digits_value}
use Rattle.std.specs.Char.{digit_value}
use Rattle.std.specs.Int.{IsInRange}
use Rattle.std.proofs.lemmas.Bool.{cases_eq}
use Rattle.std.proofs.lemmas.Bool.Decides.{nat_tests}
use Rattle.std.proofs.lemmas.Fmt.{decimal_is_IsNumeral, first_decimal, decimal_digit, decimal-digits_value}
use Rattle.std.proofs.lemmas.Str.Parse.{IsNumeralModel, numerals_by_value, tells_digits, digits_value-take-le}
use Rattle.std.proofs.lemmas.Int.Digits.{digits_value_more, digits_more}
use Rattle.pm_text.specs.Numeral.{IsNumber, HasOneSpelling}

-- a word spells at most one number
pub number_is_unique : (word : List ℕ) (one other : ℕ) → IsNumber word one → IsNumber word other → one ≡ other
number_is_unique word one other a b = sym a.value ∙ b.value

-- what `decimal` writes spells the number
pub decimal_is_number : (number : ℕ) → number < 2 ^ 64 → IsNumber (decimal number) number
decimal_is_number number fits =
    let numeral = decimal_is_IsNumeral number fits in
    record {
      numeral = numeral.0;
      no_leading_zero = λ zero_first.
          elim (cases_eq number 0) [
            | inl none ↦ ap (λ n. length (decimal n)) none ∙ ap length (decimal_digit 0 (omega arith))
            | inr some ↦ (let above = first_decimal number (omega arith) fits in absurd (omega arith))
          ];
      value = numeral.1;
      fits = fits;
    }

own : IsNumeralModel (AllDigits 10) (digits_value 10)
own = numerals_by_value (AllDigits 10) tells_digits

-- and no other word does
pub number_is_decimal : (word : List ℕ) (number : ℕ) → IsNumber word number → decimal number ≡ word
number_is_decimal word number is =
    let small : digits_value 10 word < 2 ^ 64 = rw is.value is.fits in
    ap decimal (sym is.value) ∙ decimal-digits_value own word is.numeral.1 is.numeral.0 is.no_leading_zero small

-- the value of a digit
digit_value_of_digit : (byte : ℕ) → 48 ≤ byte → byte ≤ 57 → digit_value byte ≡ byte - 48
digit_value_of_digit byte low high = grind (arith, nat_tests)

-- one more digit after those that were read
pub record IsRead (word : List ℕ) (count value : ℕ) : Type 0 where
  pub digits : AllDigits 10 (take count word)
  pub value_is : value ≡ digits_value 10 (take count word)

pub one_more_digit : (word : List ℕ) (count value : ℕ) → count < length word → IsRead word count value → 48 ≤ get_or word count 0 → get_or word count 0 ≤ 57 → IsRead word (count + 1) (value * 10 + (get_or word count 0 - 48))
one_more_digit word count value less read low high =
    let of_digit = digit_value_of_digit (get_or word count 0) low high in
    record {
      digits = digits_more 10 word count less read.digits (omega arith);
      value_is = omega (arith, digits_value_more 10 word count less, read.value_is);
    }

-- digits that are read so far write no more than all of them
pub value_so_far : (word : List ℕ) (count value : ℕ) → IsRead word count value → value ≤ digits_value 10 word
value_so_far word count value read = omega (arith, digits_value-take-le 10 word count (omega arith), read.value_is)

-- the next digit written after those that were read is no more than all of them write
pub next_value : (word : List ℕ) (count value : ℕ) → count < length word → IsRead word count value → IsInRange 48 57 (get_or word count 0) → value * 10 + (get_or word count 0 - 48) ≤ digits_value 10 word
next_value word count value less read digit =
    value_so_far word (count + 1) (value * 10 + (get_or word count 0 - 48)) (one_more_digit word count value less read (omega arith) (omega arith))

pub has_one_spelling : HasOneSpelling
has_one_spelling word number = (
  λ is. (is.fits, sym (number_is_decimal word number is)),
  λ h. subst (λ bytes. IsNumber bytes number) (sym h.1) (decimal_is_number number h.0),
)
