use Rattle.std.proofs.Common.{◌≡◌, ◌*◌, ◌<◌, ℕ, length, slice_index}
use Rattle.pm_remy.proofs.tests.path.Given as goal

abbrev pub invariant-loop-k : goal.invariant-loop-k
invariant-loop-k l =
    record { long : length l.choices.items ≡ l.k; entries : (j : ℕ) → j < l.k → slice_index l.choices.items j ≡ 4 * j }
