use Rattle.pm_led.proofs.LedWalked.{each_led_is_walked}
use Rattle.pm_led.proofs.laws.each_led_map_is_walked.Goals as goal

pub returns : goal.returns
returns c = each_led_is_walked
