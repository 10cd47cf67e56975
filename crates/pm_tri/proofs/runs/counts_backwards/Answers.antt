use Rattle.std.proofs.Common.{◌-◌, arith}
use Rattle.pm_tri.specs.declared.letters.TheConstants.{STEM}
use Rattle.pm_tri.proofs.CountsRead.{count_kept, read_all, read_more, read_none}
use Rattle.pm_tri.proofs.runs.counts_backwards.Goals as goal

pub letters-init : goal.letters-init
letters-init c = read_none _ _ _ c.in_ok-counts.ensures.items (omega arith)

pub letters-preserved : goal.letters-preserved
letters-preserved c = read_more _ c.letters.index (c.letters.index - 1) _ _ _ (omega arith) (count_kept _ _ c.count_of.ensures) c.in_ok-push.ensures.items c.letters.invariant

pub returns : goal.returns
returns c = read_all _ c.letters.index _ _ _ (omega arith) (count_kept STEM _ c.count_of-2.ensures) c.in_ok-push-2.ensures.items c.letters.invariant
