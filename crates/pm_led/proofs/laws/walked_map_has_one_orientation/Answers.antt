use Rattle.pm_led.proofs.CarriedOrientation.{walked_has_one_orientation}
use Rattle.pm_led.proofs.laws.walked_map_has_one_orientation.Goals as goal

pub returns : goal.returns
returns c = walked_has_one_orientation
