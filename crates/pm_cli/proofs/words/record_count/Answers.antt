use Rattle.std.proofs.Common.{ℕ, List, subst, arith}
use Rattle.pm_text.specs.Numeral.{IsNumber}
use Rattle.pm_cli.proofs.Sizes.{spells_no_number, spelled_number, spelled}
use Rattle.pm_cli.proofs.words.record_count.Goals as goal

pub returns-in_default : goal.returns-in_default
returns-in_default c count some few e =
    spells_no_number _ (subst (λ (w : List ℕ). (value : ℕ) → IsNumber w value → ⊥) c.as_bytes.ensures.value c.in_default.ensures.cases) count (omega arith) e

pub returns-then-count-le-MAX_RECORDS : goal.returns-then-count-le-MAX_RECORDS
returns-then-count-le-MAX_RECORDS c =
    let number = subst (λ (w : List ℕ). IsNumber w c.in-Some.count) c.as_bytes.ensures.value c.in-Some.ensures.cases in
    (c.if-count-gt0.true, c.if-count-le-MAX_RECORDS.true, spelled _ c.in-Some.count number)

pub returns-else-count-gt0 : goal.returns-else-count-gt0
returns-else-count-gt0 c count some few e =
    let number = subst (λ (w : List ℕ). IsNumber w c.in-Some.count) c.as_bytes.ensures.value c.in-Some.ensures.cases in
    let same = spelled_number _ c.in-Some.count count number (omega arith) e in
    omega (arith, c.else-count-gt0.either)
