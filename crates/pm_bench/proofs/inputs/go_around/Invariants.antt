use Rattle.std.proofs.Common.{◌≡◌, ℕ, suc, ◌%◌, ◌<◌, length}
use Rattle.std.specs.Prelude.{slice_index}
use Rattle.pm_bench.proofs.inputs.go_around.Given as goal

abbrev pub invariant-darts : goal.invariant-darts
invariant-darts l = (k : ℕ) → k < l.dart → slice_index l.sigma k ≡ suc k % length l.sigma
