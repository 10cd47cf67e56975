use Rattle.pm_perm.proofs.SameCycle.{in_cycle-iff_leader}
use Rattle.pm_perm.proofs.laws.leaders_tell_cycles.Goals as goal

pub returns : goal.returns
returns c n f a b p = in_cycle-iff_leader n f p a b
