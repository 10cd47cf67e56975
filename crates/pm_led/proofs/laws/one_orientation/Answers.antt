use Rattle.pm_led.proofs.Potential.{one_orientation}
use Rattle.pm_led.proofs.laws.one_orientation.Goals as goal

pub returns : goal.returns
returns c = one_orientation
