use Rattle.std.proofs.Common.{◌≢◌, ℕ, ◌<◌, slice_index}
use Rattle.pm_map.specs.Rotation.{twin}
use Rattle.pm_map.proofs.simple.least_loop.Given as goal

abbrev pub invariant-darts : goal.invariant-darts
invariant-darts l = (d : ℕ) → d < l.dart → slice_index l.leaders d ≢ slice_index l.leaders (twin d)
