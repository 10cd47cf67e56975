use Rattle.std.proofs.Common.{◌≡◌, ◌+◌, ◌-◌, ◌*◌, ◌<◌, ℕ, suc, max, slice_set, sym, ap, ap₂, ◌∙◌, arith}
use Rattle.pm_remy.specs.Tree.{least}
use Rattle.pm_remy.specs.steps.Noted.{root_upto, fork_choice}
use Rattle.pm_remy.proofs.Noting.{choice-left, choice-right}
use Rattle.pm_remy.proofs.ungrowing.note_fork.Goals as goal

pub returns-then-left-right-clause-choices : goal.returns-then-left-right-clause-choices
returns-then-left-right-clause-choices c =
    λ l r a b.
    let first : least l < least r = omega (arith, a.least_is, b.least_is, c.if-left-right.true) in
    let at : c.args.right.least - 1 ≡ max c.args.left.least c.args.right.least - 1 = omega (arith, c.if-left-right.true) in
    let node : 2 * c.root_before-node.result ≡ fork_choice l r =
    ap (λ (x : ℕ). 2 * x) (c.root_before-node.ensures.root l a ∙ ap (λ (x : ℕ). root_upto x l) (sym b.least_is)) ∙ sym (choice-left l r first) in
    ap₂ (slice_set c.args.choices.now) at node

pub returns-else-left-right-clause-choices : goal.returns-else-left-right-clause-choices
returns-else-left-right-clause-choices c =
    λ l r a b.
    let at : c.args.left.least - 1 ≡ max c.args.left.least c.args.right.least - 1 = omega (arith, c.if-left-right.false) in
    let one : 2 * c.root_before-node-else-left-right.result + 1 ≡ suc (2 * c.root_before-node-else-left-right.result) = omega arith in
    let node : suc (2 * c.root_before-node-else-left-right.result) ≡ fork_choice l r =
    ap (λ (x : ℕ). suc (2 * x)) (c.root_before-node-else-left-right.ensures.root r b ∙ ap (λ (x : ℕ). root_upto x r) (sym a.least_is))
    ∙ sym (choice-right l r (omega (arith, a.least_is, b.least_is, c.if-left-right.false))) in
    ap₂ (slice_set c.args.choices.now) at (one ∙ node)
