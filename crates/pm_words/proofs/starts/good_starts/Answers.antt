use Rattle.std.proofs.Common.{arith, rules, get_or, pos}
use mir.Val.{SFits}
use mir.Syntax.{w32}
use Rattle.pm_words.proofs.Heights.{IsSummedTo-none, IsSummedTo-step, IsSmall, IsLowest-small, lowest_bound, bound_is, filled, less_from_test, not_less_from_test}
use Rattle.pm_words.proofs.Records.{HasRecords-none, HasRecords-push, HasRecords-high, HasRecords-same, HasRecords-starts}
use Rattle.pm_words.proofs.starts.good_starts.Goals as goal
use Rattle.pm_words.proofs.starts.good_starts.Goals.{then-sum-least+then-sum-bound+in_ok-push, then-sum-least+else-sum-bound, else-sum-least}

pub lowest_prefix-requires-clause-filled : goal.lowest_prefix-requires-clause-filled
lowest_prefix-requires-clause-filled c = filled _ _ c.requires.goal c.requires.sum

pub prefixes-init : goal.prefixes-init
prefixes-init c =
    let small : IsSmall c.args.word.now c.lowest_prefix.result = IsLowest-small _ _ c.requires.letters c.lowest_prefix.ensures in
    let bound = bound_is c.args.word.now c.args.goal c.lowest_prefix.result c.from.result small c.requires.few (omega arith) c.from.ensures in
    (IsSummedTo-none _, HasRecords-none _ _ _ (rw bound (lowest_bound _ _ _ c.requires.letters c.requires.sum c.lowest_prefix.ensures)) c.new-starts.ensures.items)

pub prefixes-preserved : goal.prefixes-preserved
prefixes-preserved c =
    let fits : SFits w32 (get_or c.args.word.now c.prefixes.start (pos 0)) = search rules in (
      IsSummedTo-step _ _ _ _ c.prefixes.invariant.0 (c.requires.letters.least _ c.prefixes-test.true) c.prefixes-test.true c.requires.few fits c.from-sum.ensures,
      elim c.if-sum-least.branch [
        | then-sum-least+then-sum-bound+in_ok-push w ↦
            rw (w.starts-is, w.least-is, w.in_ok-push.ensures.items)
            (HasRecords-push _ _ _ _ _ _ c.prefixes.invariant.1 c.prefixes.invariant.0.is c.requires.letters c.prefixes-test.true (less_from_test _ _ w.if-sum-least.true) (less_from_test _ _ w.if-sum-bound.true))
        | then-sum-least+else-sum-bound w ↦
            rw (w.starts-is, w.least-is)
            (HasRecords-high _ _ _ _ _ _ c.prefixes.invariant.1 c.prefixes.invariant.0.is c.requires.letters c.prefixes-test.true (less_from_test _ _ w.if-sum-least.true) (not_less_from_test _ _ w.if-sum-bound.false))
        | else-sum-least w ↦
            rw (w.starts-is, w.least-is)
            (HasRecords-same _ _ _ _ _ _ c.prefixes.invariant.1 c.prefixes.invariant.0.is (not_less_from_test _ _ w.if-sum-least.false))
      ],
    )

pub returns : goal.returns
returns c =
    let small : IsSmall c.args.word.now c.lowest_prefix.result = IsLowest-small _ _ c.requires.letters c.lowest_prefix.ensures in
    let bound = bound_is c.args.word.now c.args.goal c.lowest_prefix.result c.from.result small c.requires.few (omega arith) c.from.ensures in
    HasRecords-starts _ _ c.prefixes.start _ _ _ _ c.requires.goal c.requires.sum (filled _ _ c.requires.goal c.requires.sum) (omega arith) c.lowest_prefix.ensures bound c.prefixes.invariant.1
