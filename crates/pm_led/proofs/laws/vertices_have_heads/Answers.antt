use Rattle.pm_led.proofs.HeadsFound.{have_heads}
use Rattle.pm_led.proofs.laws.vertices_have_heads.Goals as goal

pub returns : goal.returns
returns c = have_heads
