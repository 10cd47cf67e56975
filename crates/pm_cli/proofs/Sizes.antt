-- The words that spell numbers.
use Rattle.std.proofs.Common.{◌≡◌, ℕ, ◌<◌, ◌^◌, List, sym, ◌∙◌}
use Rattle.std.specs.Prelude.{decimal}
use Rattle.std.proofs.lemmas.Fmt.{decimal_injective}
use Rattle.pm_text.specs.Numeral.{IsNumber}
use Rattle.pm_text.proofs.NumeralLemmas.{has_one_spelling}

-- a word spells one number
pub one_number : (word : List ℕ) (a b : ℕ) → a < 2 ^ 64 → b < 2 ^ 64 → word ≡ decimal a → word ≡ decimal b → a ≡ b
one_number word a b small few x y = decimal_injective a b small few (sym x ∙ y)

pub spelled : (word : List ℕ) (value : ℕ) → IsNumber word value → word ≡ decimal value
spelled word value number = ((has_one_spelling word value).0 number).1

-- a word that spells no number spells none of 64 bits
pub spells_no_number : (word : List ℕ) → ((value : ℕ) → IsNumber word value → ⊥) → (n : ℕ) → n < 2 ^ 64 → word ≡ decimal n → ⊥
spells_no_number word none n fits e = none n ((has_one_spelling word n).1 (fits, e))

pub spelled_number : (word : List ℕ) (value n : ℕ) → IsNumber word value → n < 2 ^ 64 → word ≡ decimal n → value ≡ n
spelled_number word value n number fits e =
    let spelled = (has_one_spelling word value).0 number in
    decimal_injective value n spelled.0 fits (sym spelled.1 ∙ e)

-- the number of bytes that stand for a word
pub seed_of : (bytes word : List ℕ) (value : ℕ) → bytes ≡ word → IsNumber bytes value → (value < 2 ^ 64) × (word ≡ decimal value)
seed_of bytes word value e number = let is = (has_one_spelling bytes value).0 number in (is.0, sym e ∙ is.1)
