use Rattle.std.proofs.Common.{◌≡◌, ℕ, take}
use Rattle.std.specs.List.{sum_by}
use Rattle.pm_euler.proofs.objects.nodes_of.Given as goal

abbrev pub invariant-loop-pair : goal.invariant-loop-pair
invariant-loop-pair l = l.nodes ≡ sum_by (λ (p : ℕ × ℕ). p.1) (take l.pair-index l.pair-items)
