use Rattle.std.proofs.Common.{◌≡◌, ◌≢◌, ℕ, ◌<◌, ◌^◌, List, sym, ap, ◌∙◌, subst, arith}
use Rattle.std.specs.Prelude.{decimal, Result, Ok, Err, MatchOption}
use Rattle.std.specs.Result.{OkIff, result_ok}
use Rattle.pm_text.specs.Numeral.{IsNumber}
use Rattle.pm_cli.proofs.Sizes.{spells_no_number, spelled_number, spelled}
use Rattle.pm_cli.proofs.profile_word.small_number.Goals as goal

-- the number that the word spells, where it has 32 bits
small : {E : Type 0} (word : List ℕ) (value : ℕ) (r : Result ℕ E) → IsNumber word value → OkIff r (value < 2 ^ 32) value
    → MatchOption (result_ok r) ((n : ℕ) → n < 2 ^ 32 → word ≢ decimal n) (λ n. (n < 2 ^ 32) × (word ≡ decimal n))
small word value (Ok n) is fits = (subst (λ (k : ℕ). k < 2 ^ 32) (sym fits.1) fits.0, spelled word value is ∙ ap decimal (sym fits.1))
small word value (Err e) is wide = λ n few same. wide (let equal = spelled_number word value n is (omega arith) same in omega arith)

pub returns-in_err-value : goal.returns-in_err-value
returns-in_err-value c = rw c.from_residual.ensures (λ value few e. spells_no_number _ (subst (λ (w : List ℕ). (value : ℕ) → IsNumber w value → ⊥) c.as_bytes.ensures.value c.in_err-value.ensures.cases) value (omega arith) e)

pub returns : goal.returns
returns c = rw c.ok.ensures.value (small _ c.in_ok-value.value c.try_from.result (subst (λ (w : List ℕ). IsNumber w c.in_ok-value.value) c.as_bytes.ensures.value c.in_ok-value.ensures.cases) c.try_from.ensures)
