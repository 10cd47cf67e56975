use Rattle.std.proofs.Common.{ℕ, ◌∷◌, ◌++◌, [], List, ap₂, ◌∙◌}
use Rattle.pm_euler.proofs.QuarticClass.{quartic_class}
use Rattle.pm_euler.proofs.TreeSamples.{unnamed_sampled}
use Rattle.pm_euler.proofs.quartic.QuarticMapClass.sample_unnamed.Goals as goal

pub returns : goal.returns
returns c =
    let first = c.in_ok-push.ensures.items ∙ ap₂ (λ (xs : List ℕ) (k : ℕ). xs ++ k ∷ []) c.new-residue.ensures.items c.from.ensures in
    let residue = c.of.ensures ∙ c.in_ok-extend_from_slice.ensures.items ∙ ap₂ (λ (xs ys : List ℕ). xs ++ ys) first c.deref.ensures.value in
    unnamed_sampled (quartic_class c.args.size.now c.requires.size) c.args.choices.now c.in_ok-closed.closed.map c.of.result c.in_ok-made.made.tree c.in_ok-made.made.rest.items c.in_ok-closed.closed.old_plant
    c.requires.valid c.in_ok-made.ensures c.in_ok-closed.ensures residue
