use Rattle.std.proofs.Common.{◌≡◌, List, [], ◌∷◌, ◌++◌, ℕ, replicate, ◌∙◌, ap, ap₂}
use Rattle.pm_euler.proofs.quartic.limits_of_choices.Goals as goal

pub returns : goal.returns
returns c =
    let patterns : c.in_ok-patterns.patterns.items ≡ replicate c.args.size 3 = c.in_ok-patterns.ensures.items_if_clones_equal (λ y e. e) in
    c.in_ok-push.ensures.items
    ∙ ap (λ (xs : List ℕ). xs ++ 2 ∷ []) (c.in_ok-extend_from_slice.ensures.items ∙ ap₂ (λ (xs ys : List ℕ). xs ++ ys) c.in_ok-limits.ensures (c.deref.ensures.value ∙ patterns))
