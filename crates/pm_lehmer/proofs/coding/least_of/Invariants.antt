use Rattle.std.specs.Prelude.{ℕ, ◌<◌, ◌≤◌, slice_index}
use Rattle.pm_lehmer.proofs.coding.least_of.Given as goal

abbrev pub invariant-entries : goal.invariant-entries
invariant-entries l = (place : ℕ) → place < l.entry-index → l.least ≤ slice_index l.entries place
