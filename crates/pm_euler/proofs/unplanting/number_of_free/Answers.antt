use Rattle.std.proofs.Common.{sym, ◌∙◌}
use Rattle.pm_euler.proofs.SomeUnplanting.{number_first, number_second}
use Rattle.pm_euler.proofs.unplanting.number_of_free.Goals as goal

pub returns-then-leaves_before-leaf-clause-free : goal.returns-then-leaves_before-leaf-clause-free
returns-then-leaves_before-leaf-clause-free c = λ place numbered.
    number_first c.args.tree.now _ _ c.args.leaf place c.free_leaves-first.ensures (sym c.if-leaves_before-leaf.true ∙ c.leaves_before.ensures) numbered

pub returns-else-leaves_before-leaf-clause-free : goal.returns-else-leaves_before-leaf-clause-free
returns-else-leaves_before-leaf-clause-free c = λ place numbered.
    number_second c.args.tree.now _ _ c.args.leaf place c.free_leaves-first.ensures (λ e. c.if-leaves_before-leaf.false (c.leaves_before.ensures ∙ e)) numbered (c.requires place numbered)
