use Rattle.std.proofs.Common.{ℕ, ◌∷◌, ◌++◌, [], ap, ◌∙◌}
use Rattle.pm_euler.proofs.EulerianClass.{eulerian_class}
use Rattle.pm_euler.proofs.TreeSamples.{unnamed_sampled}
use Rattle.pm_euler.proofs.eulerian.EulerianMapClass.sample_unnamed.Goals as goal

pub returns : goal.returns
returns c =
    unnamed_sampled (eulerian_class c.args.size.now c.requires.size) c.args.choices.now c.in_ok-closed.closed.map c.of.result c.in_ok-made.made.tree c.in_ok-made.made.rest.items c.in_ok-closed.closed.old_plant
    c.requires.valid c.in_ok-made.ensures c.in_ok-closed.ensures (c.of.ensures ∙ c.in_ok-push.ensures.items ∙ ap (λ (k : ℕ). c.in_ok-made.made.rest.items ++ k ∷ []) c.from.ensures)
