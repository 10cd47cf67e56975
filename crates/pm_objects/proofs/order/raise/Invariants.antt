use Rattle.std.proofs.Common.{◌≡◌, ℕ, ◌+◌, ◌<◌, ◌≤◌}
use Rattle.std.specs.Prelude.{slice_index}
use Rattle.pm_objects.proofs.order.raise.Given as goal

abbrev pub invariant-places : goal.invariant-places
invariant-places l = record {
  raised : (place : ℕ) → place < l.place → slice_index l.list place ≡ l.first + slice_index l.initial.list place;
  same : (place : ℕ) → l.place ≤ place → slice_index l.list place ≡ slice_index l.initial.list place;
}
