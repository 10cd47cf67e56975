use Rattle.std.proofs.Common.{ℕ, ◌+◌, ◌<◌, length}
use Rattle.std.specs.Prelude.{slice_index}
use Rattle.pm_bench.proofs.inputs.draw_code.Given as goal

abbrev pub invariant-places : goal.invariant-places
invariant-places l = (place : ℕ) → place < l.place → slice_index l.code place + place < length l.code
