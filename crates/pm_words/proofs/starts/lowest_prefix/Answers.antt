use Rattle.std.proofs.Common.{arith, rules, get_or, pos}
use mir.Val.{SFits}
use mir.Syntax.{w32}
use Rattle.pm_words.proofs.Heights.{IsSummedTo-none, IsSummedTo-step, IsLowestTo-none, IsLowestTo-lower, IsLowestTo-same, IsLowestTo-all, less_from_test, not_less_from_test}
use Rattle.pm_words.proofs.starts.lowest_prefix.Goals as goal
use Rattle.pm_words.proofs.starts.lowest_prefix.Goals.{then-sum-lowest, else-sum-lowest}

pub prefixes-init : goal.prefixes-init
prefixes-init c = (IsSummedTo-none _, IsLowestTo-none _ c.requires.filled)

pub prefixes-preserved : goal.prefixes-preserved
prefixes-preserved c =
    let fits : SFits w32 (get_or c.args.word.now c.prefixes.letter-index (pos 0)) = search rules in (
      IsSummedTo-step _ _ _ _ c.prefixes.invariant.0 (c.requires.letters.least _ c.prefixes-test.true) c.prefixes-test.true c.requires.few fits c.from-sum.ensures,
      elim c.if-sum-lowest.branch [
        | then-sum-lowest w ↦ rw w.lowest-is (IsLowestTo-lower _ _ _ _ c.prefixes.invariant.1 c.prefixes.invariant.0.is c.prefixes-test.true (less_from_test _ _ w.if-sum-lowest.true))
        | else-sum-lowest w ↦ rw w.lowest-is (IsLowestTo-same _ _ _ _ c.prefixes.invariant.1 c.prefixes.invariant.0.is (not_less_from_test _ _ w.if-sum-lowest.false))
      ],
    )

pub returns : goal.returns
returns c = IsLowestTo-all _ c.prefixes.letter-index _ (omega arith) c.prefixes.invariant.1
