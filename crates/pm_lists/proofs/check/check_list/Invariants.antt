use Rattle.std.proofs.Common.{ℕ, ◌<◌, get_or}
use Rattle.pm_lists.proofs.check.check_list.Given as goal

abbrev pub invariant-loop-place : goal.invariant-loop-place
invariant-loop-place l = (k : ℕ) → k < l.place → get_or l.values k 0 < get_or l.limits k 0
