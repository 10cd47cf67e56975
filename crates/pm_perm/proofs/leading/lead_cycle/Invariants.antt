use Rattle.std.proofs.Common.{length}
use Rattle.pm_perm.proofs.LeadersWritten.{IsLeading, unwritten}
use Rattle.pm_perm.proofs.leading.lead_cycle.Given as goal

abbrev pub invariant-walk : goal.invariant-walk
invariant-walk l = IsLeading l.values l.leaders l.start l.at

abbrev pub decreases-walk : goal.decreases-walk
decreases-walk l = unwritten l.leaders (length l.values)
