use Rattle.std.proofs.Common.{◌≡◌, length}
use Rattle.pm_canon.specs.steps.Naming.{IsNamingList}
use Rattle.pm_canon.proofs.naming.name_all.Given as goal

abbrev pub invariant-name : goal.invariant-name
invariant-name l = (length l.names ≡ length l.fn.names) × IsNamingList l.fn.darts l.darts l.names l.place l.name
