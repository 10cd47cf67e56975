use Rattle.std.proofs.Common.{◌≡◌, ℕ, ◌<◌, get_or, false}
use Rattle.pm_map.proofs.marks.clear.Given as goal

abbrev pub invariant-clear : goal.invariant-clear
invariant-clear l = (k : ℕ) → k < l.mark-index → get_or l.marks k false ≡ false
