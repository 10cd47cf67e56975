use Rattle.pm_general.proofs.GeneralClass.{medial_is_imaged}
use Rattle.pm_general.proofs.general.GeneralSampledThrough.behind_of.Goals as goal

pub returns-in-Ok : goal.returns-in-Ok
returns-in-Ok c = medial_is_imaged c.args.map.now c.in-Ok.behind c.in-Ok.ensures.is_medial
