use Rattle.pm_general.proofs.GeneralClass.{general_is_exchanged}
use Rattle.pm_general.proofs.general.GeneralSampledThrough.is_exchanged.Goals as goal

pub returns : goal.returns
returns c = general_is_exchanged
