use Rattle.std.proofs.Common.{List, ℕ, suc, ◌++◌, replicate, ap, ◌∙◌}
use Rattle.pm_trees.specs.Pairs.{edges_of, pair_at}
use Rattle.pm_objects.specs.Codes.{code_bounds}
use Rattle.pm_euler.proofs.EulerianBounds.{patterns_more}
use Rattle.pm_euler.proofs.bounds.eulerian_choice_limits.Goals as goal

pub loop-pair-preserved : goal.loop-pair-preserved
loop-pair-preserved c =
    patterns_more c.pairs-pair-items.result.now c.loop-pair.pair-index (code_bounds (suc (edges_of c.args.profile.now))) c.loop-pair.limits.items c.extend_from_slice.new.self.items c.loop-pair-test.true c.loop-pair.invariant
    (c.in_ok-extend_from_slice.ensures.items
    ∙ ap (λ (xs : List ℕ). c.loop-pair.limits.items ++ xs) (c.deref.ensures.value ∙ c.in_ok-patterns.ensures.items_if_clones_equal (λ y e. e)
    ∙ ap (replicate (pair_at c.pairs-pair-items.result.now c.loop-pair.pair-index).1) c.pattern_count.ensures))
