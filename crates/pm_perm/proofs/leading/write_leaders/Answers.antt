use Rattle.std.proofs.Common.{rules}
use Rattle.pm_perm.proofs.LeadersWritten.{led-all, led-skip}
use Rattle.pm_perm.proofs.leading.write_leaders.Goals as goal
use Rattle.pm_perm.proofs.leading.write_leaders.Goals.{then-leaders-start, else-leaders-start}

pub starts-preserved : goal.starts-preserved
starts-preserved c = elim c.if-leaders-start.branch [
  | then-leaders-start w ↦ rw w.leaders-is w.lead_cycle.ensures
  | else-leaders-start w ↦ rw w.leaders-is (led-skip _ _ _ c.requires.permutation c.starts-test.true c.starts.invariant w.if-leaders-start.false)
]

pub returns : goal.returns
returns c = led-all _ _ _ c.requires.permutation (search rules) (search rules) c.starts.invariant
