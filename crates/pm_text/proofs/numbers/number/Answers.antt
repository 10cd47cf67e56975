use Rattle.std.proofs.Common.{arith}
use Rattle.pm_text.proofs.LeadingLemmas.{leading_is_unique, word_leads}
use Rattle.pm_text.proofs.numbers.number.Goals as goal

pub returns-then-number-word-clause-cases : goal.returns-then-number-word-clause-cases
returns-then-number-word-clause-cases c = λ value is.
    let same = leading_is_unique c.args.word.now c.in_ok-number.number.value value c.in_ok-number.number.length _ c.in_ok-number.ensures (word_leads c.args.word.now value is) in
    omega (arith, same.0, c.if-number-word.true)

pub returns-then-number-word-clause-exact : goal.returns-then-number-word-clause-exact
returns-then-number-word-clause-exact c = λ value. (
  λ same. cc,
  λ is.
      (let same = leading_is_unique c.args.word.now c.in_ok-number.number.value value c.in_ok-number.number.length _ c.in_ok-number.ensures (word_leads c.args.word.now value is) in
      absurd (omega (arith, same.0, c.if-number-word.true))),
)
