use Rattle.pm_lehmer.proofs.Ones.{ones_below-masked}
use Rattle.pm_lehmer.proofs.bits.ones_below.Goals as goal

pub returns-clause-value : goal.returns-clause-value
returns-clause-value c = ones_below-masked c.args.word c.args.bit c.requires
