use Rattle.std.proofs.Common.{arith, rules, ◌∙◌, get_or, pos, negsuc, ◌≤ℤ◌, below_more}
use Rattle.std.proofs.lemmas.Int.{ints, to_z-of_z}
use mir.Val.{SFits}
use mir.Syntax.{w32}
use Rattle.pm_words.proofs.Heights.{IsSummedTo-none, IsSummedTo-step, height-all}
use Rattle.pm_words.proofs.tests.word_sum.Goals as goal

pub letters-init : goal.letters-init
letters-init c = (IsSummedTo-none _, λ place inside. absurd (omega arith))

pub letters-preserved : goal.letters-preserved
letters-preserved c =
    let fits : SFits w32 (get_or c.args.word.now c.letters.letter-index (pos 0)) = search rules in
    let least : negsuc 0 ≤ℤ get_or c.args.word.now c.letters.letter-index (pos 0) = grind (arith, ints, to_z-of_z, c.if-letter-ltminus1.false, fits) in (
      IsSummedTo-step _ _ _ _ c.letters.invariant.0 least c.letters-test.true c.requires fits c.from-sum.ensures,
      below_more _ _ c.letters.invariant.1 least,
    )

pub returns-clause-sum : goal.returns-clause-sum
returns-clause-sum c = c.letters.invariant.0.is ∙ height-all _ _ (omega arith)
