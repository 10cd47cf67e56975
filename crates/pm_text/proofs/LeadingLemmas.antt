-- The number at the prefix of bytes: the digits up to the first byte that is none.
use Rattle.std.proofs.Common.{◌≡◌, ℕ, ◌+◌, ◌*◌, ◌-◌, ◌<◌, ◌≤◌, ◌^◌, List, [], ◌∷◌, ◌++◌, length, take, get_or, refl, sym, ap, ◌∙◌, subst, inl, inr, arith, length-append}
use Rattle.std.specs.Prelude.{decimal}
use Rattle.std.specs.Int.{IsInRange}
use Rattle.std.specs.Str.Parse.{AllDigits, digits_value}
use Rattle.std.proofs.lemmas.Bool.{cases_lt, cases_eq}
use Rattle.std.proofs.lemmas.List.{get_or-take, length-take-le, take-take, take_all, take_at}
use Rattle.std.proofs.Math.Nat.{pow-le-pow_right}
use Rattle.std.proofs.lemmas.Int.Digits.{digits_value-lt}
use Rattle.std.proofs.lemmas.Str.Parse.{digit_at}
use Rattle.pm_text.specs.Numeral.{IsNumber, HasDigit, IsLeadingNumber, ReadsDigits}
use Rattle.pm_text.proofs.NumeralLemmas.{IsRead, one_more_digit, next_value, number_is_unique, decimal_is_number}

-- a digit of the prefix is a digit of the bytes
prefix_digit : (bytes : List ℕ) (count place : ℕ) → count ≤ length bytes → AllDigits 10 (take count bytes) → place < count → HasDigit bytes place
prefix_digit bytes count place within digits less =
    let inside : place < length (take count bytes) = omega (arith, length-take-le count bytes within) in
    record { within = omega arith; digit = subst (IsInRange 48 57) (get_or-take count bytes place 0 less) (digit_at (take count bytes) place digits inside) }

-- the number goes on where a digit stands after digits
pub leading_goes_on : (bytes : List ℕ) (place number count : ℕ) → place ≤ length bytes → AllDigits 10 (take place bytes) → HasDigit bytes place → IsLeadingNumber bytes number count → place < count
leading_goes_on bytes place number count within digits here is =
    elim (cases_lt place count) [
      | inl less ↦ less
      | inr past ↦ elim (cases_eq count place) [
        | inl same ↦ absurd (is.ends (subst (HasDigit bytes) (sym same) here))
        | inr before ↦ absurd (is.ends (prefix_digit bytes place count within digits (omega (arith, past, before))))
      ]
    ]

-- it ends where none stands after digits
pub leading_ends : (bytes : List ℕ) (place number count : ℕ) → place ≤ length bytes → AllDigits 10 (take place bytes) → (HasDigit bytes place → ⊥) → IsLeadingNumber bytes number count → count ≡ place
leading_ends bytes place number count within digits none is =
    elim (cases_lt count place) [
      | inl before ↦ absurd (is.ends (prefix_digit bytes place count within digits before))
      | inr past ↦ elim (cases_eq count place) [
        | inl same ↦ same
        | inr more ↦ absurd (none (prefix_digit bytes count place is.within is.word.numeral.1 (omega (arith, past, more))))
      ]
    ]

-- what is read of digits, without its bounds
is_read : (bytes : List ℕ) (count value : ℕ) → ReadsDigits bytes count value → IsRead bytes count value
is_read bytes count value r = record { digits = r.digits; value_is = r.value_is }

-- nothing is read
pub reads_none : (bytes : List ℕ) → ReadsDigits bytes 0 0
reads_none bytes = record { within = omega arith; digits = tt; value_is = refl; fits = omega arith }

-- one digit more is read, where it fits
pub reads_more : (bytes : List ℕ) (place value more : ℕ) → ReadsDigits bytes place value → HasDigit bytes place → more ≡ value * 10 + (get_or bytes place 0 - 48) → more < 2 ^ 64
    → ReadsDigits bytes (place + 1) more
reads_more bytes place value more r here is fits =
    let digit = here.digit in
    let read = one_more_digit bytes place value here.within (is_read bytes place value r) digit.0 digit.1 in
    record { within = omega (arith, here.within); digits = read.digits; value_is = is ∙ read.value_is; fits = fits }

-- so few digits write no more than fits
pub few_fit : (bytes : List ℕ) (place value : ℕ) → ReadsDigits bytes place value → place < 19 → value < 10 ^ 18
few_fit bytes place value r few =
    let below = digits_value-lt 10 (take place bytes) r.digits in
    let size : length (take place bytes) ≡ place = length-take-le place bytes r.within in
    let most : 10 ^ length (take place bytes) ≤ 10 ^ 18 = pow-le-pow_right {n = 10} (omega arith) {i = length (take place bytes)} {j = 18} (omega arith) in
    omega (arith, below, most, r.value_is)

-- the digits up to the next one write no more than the number
pub leading_fits : (bytes : List ℕ) (place value number count : ℕ) → ReadsDigits bytes place value → HasDigit bytes place → IsLeadingNumber bytes number count
    → value * 10 + (get_or bytes place 0 - 48) < 2 ^ 64
leading_fits bytes place value number count read here is =
    let less : place < count = leading_goes_on bytes place number count read.within read.digits here is in
    let word : List ℕ = take count bytes in
    let prefix : take place word ≡ take place bytes = take-take place count bytes (omega arith) in
    let same : get_or word place 0 ≡ get_or bytes place 0 = get_or-take count bytes place 0 less in
    let read_word : IsRead word place value = record {
      digits = subst (AllDigits 10) (sym prefix) read.digits;
      value_is = read.value_is ∙ ap (digits_value 10) (sym prefix);
    } in
    let most = next_value word place value (omega (arith, length-take-le count bytes is.within)) read_word (subst (IsInRange 48 57) (sym same) here.digit) in
    omega (arith, most, ap (λ b. b - 48) same, is.word.value, is.word.fits)

-- a whole word that spells a number begins with it
pub word_leads : (word : List ℕ) (number : ℕ) → IsNumber word number → IsLeadingNumber word number (length word)
word_leads word number is = record {
  within = omega arith;
  word = subst (λ w. IsNumber w number) (sym (take_all (length word) word (omega arith))) is;
  ends = λ h. omega (arith, h.within);
}

-- bytes begin with at most one number
pub leading_is_unique : (bytes : List ℕ) (one other count length : ℕ) → IsLeadingNumber bytes one count → IsLeadingNumber bytes other length → (count ≡ length) × (one ≡ other)
leading_is_unique bytes one other count length a b =
    let same : count ≡ length = leading_ends bytes length one count b.within b.word.numeral.1 b.ends a in
    (same, number_is_unique (take length bytes) one other (subst (λ n. IsNumber (take n bytes) one) same a.word) b.word)

-- a number and bytes that begin with no digit
pub leading-decimal : (number : ℕ) (rest : List ℕ) → number < 2 ^ 64 → (HasDigit rest 0 → ⊥) → IsLeadingNumber (decimal number ++ rest) number (length (decimal number))
leading-decimal number rest fits none =
    let word : List ℕ = decimal number in
    let ends : HasDigit (word ++ rest) (length word) → ⊥ = λ h.
    (let at : get_or (word ++ rest) (length word) 0 ≡ get_or rest 0 0 = after word rest in
    none (record { within = omega (arith, h.within, length-append word rest); digit = subst (IsInRange 48 57) at h.digit })) in
    record {
      within = omega (arith, length-append word rest);
      word = subst (λ w. IsNumber w number) (sym (take_at word rest (length word) refl)) (decimal_is_number number fits);
      ends = ends;
    } where
      after : (word rest : List ℕ) → get_or (word ++ rest) (length word) 0 ≡ get_or rest 0 0
      after [] rest = refl
      after (x ∷ word) rest = after word rest
