use Rattle.pm_walk.proofs.LedWalk.{walked_is_led}
use Rattle.pm_walk.proofs.laws.walked_darts_are_led.Goals as goal

pub returns : goal.returns
returns c = walked_is_led
