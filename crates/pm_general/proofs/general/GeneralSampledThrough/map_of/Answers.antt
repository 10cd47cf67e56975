use Rattle.pm_general.proofs.GeneralClass.{all_four}
use Rattle.pm_general.proofs.general.GeneralSampledThrough.map_of.Goals as goal

pub unmedial_of_quartic-requires-clause-degrees : goal.unmedial_of_quartic-requires-clause-degrees
unmedial_of_quartic-requires-clause-degrees c = all_four c.args.behind.now c.args._size.now c.requires.in_class
