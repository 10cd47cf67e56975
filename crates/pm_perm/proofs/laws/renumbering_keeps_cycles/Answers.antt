use Rattle.pm_perm.proofs.Renumbered.{cycles-carried}
use Rattle.pm_perm.proofs.laws.renumbering_keeps_cycles.Goals as goal

pub returns : goal.returns
returns c = cycles-carried
