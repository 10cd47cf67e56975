use Rattle.pm_led.proofs.TurnedRoot.{turned_is_one}
use Rattle.pm_led.proofs.laws.turned_orientation_is_one.Goals as goal

pub returns : goal.returns
returns c = turned_is_one
