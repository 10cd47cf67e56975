use Rattle.std.proofs.Common.{◌≡◌, ℕ, ◌∷◌, suc, take}
use Rattle.std.specs.Prelude.{flat_map}
use Rattle.pm_trees.specs.Pairs.{edges_of}
use Rattle.pm_objects.specs.Codes.{code_bounds}
use Rattle.pm_euler.proofs.bounds.eulerian_residue_limits.Given as goal

abbrev pub invariant-loop-pair : goal.invariant-loop-pair
invariant-loop-pair l = l.limits.items ≡ suc (edges_of l.profile) ∷ flat_map (λ (p : ℕ × ℕ). code_bounds p.1) (take l.pair-index l.pair-items)
