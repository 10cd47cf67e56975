use Rattle.pm_led.proofs.WalkedLed.{each_walked_is_led}
use Rattle.pm_led.proofs.laws.each_walked_map_is_led.Goals as goal

pub returns : goal.returns
returns c = each_walked_is_led
