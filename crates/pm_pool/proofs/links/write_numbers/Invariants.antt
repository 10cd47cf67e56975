use Rattle.std.proofs.Common.{◌≡◌, ℕ, ◌<◌, slice_index}
use Rattle.pm_pool.proofs.links.write_numbers.Given as goal

abbrev pub invariant-numbers : goal.invariant-numbers
invariant-numbers l = (j : ℕ) → j < l.k → slice_index l.numbers j ≡ j
