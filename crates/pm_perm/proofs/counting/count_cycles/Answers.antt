use Rattle.std.proofs.Common.{arith, rules}
use Rattle.pm_perm.proofs.Walks.{counting-none, counting-more, counting-skip, counting-bound, counting-all}
use Rattle.pm_perm.proofs.counting.count_cycles.Goals as goal
use Rattle.pm_perm.proofs.counting.count_cycles.Goals.{then-not-marks-start, else-not-marks-start}

pub overflow_add-count : goal.overflow_add-count
overflow_add-count c = omega (arith, counting-bound _ _ _ _ c.starts.invariant, c.starts-test.true, c.requires.few)

pub starts-init : goal.starts-init
starts-init c = counting-none _ _ (search rules)

pub starts-preserved : goal.starts-preserved
starts-preserved c = elim c.if-not-marks-start.branch [
  | then-not-marks-start w ↦ rw w.marks-is (rw w.count-is (counting-more _ _ _ _ _ c.requires.permutation c.starts-test.true c.starts.invariant w.if-not-marks-start.true w.mark_cycle.ensures))
  | else-not-marks-start w ↦ rw w.marks-is (rw w.count-is (counting-skip _ _ _ _ c.requires.permutation c.starts-test.true c.starts.invariant w.if-not-marks-start.false))
]

pub returns : goal.returns
returns c = counting-all _ _ _ _ (search rules) c.starts.invariant
