use Rattle.pm_brackets.proofs.Reading.{least_fault}
use Rattle.pm_brackets.proofs.faults.first_fault.Goals as goal

pub returns : goal.returns
returns c = least_fault _ _ c.first_foreign.result c.in_ok-unmatched.unmatched _ c.first_foreign.ensures c.in_ok-unmatched.ensures c.lesser.ensures
