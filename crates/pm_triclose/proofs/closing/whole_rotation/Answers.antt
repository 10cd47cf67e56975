use Rattle.std.proofs.Common.{◌≡◌, ℕ, List, IfOk, ◌∙◌, ap, sym, subst}
use Rattle.pm_map.specs.Rotation.{structure_of}
use Rattle.pm_tri.specs.StemTree.{IsInOrder, contour}
use Rattle.pm_tri.specs.Whole.{whole}
use Rattle.pm_triclose.specs.WholeClosure.{ClosesAhead, IsWholeClosure}
use Rattle.pm_triclose.proofs.WholeInOrder.{whole_ahead, whole_in_order}
use Rattle.pm_triclose.proofs.closing.whole_rotation.Goals as goal

pub closed_rotation-requires-clause-in_order : goal.closed_rotation-requires-clause-in_order
closed_rotation-requires-clause-in_order c =
    let is : c.deref.result.now ≡ whole c.args.tree.now = c.deref.ensures.value ∙ c.in_ok-letters.ensures ∙ ap whole c.letters.ensures.letters in
    subst IsInOrder (sym is) (whole_in_order c.args.tree.now c.letters.ensures.valid c.requires)

pub closed_rotation-requires-clause-ahead : goal.closed_rotation-requires-clause-ahead
closed_rotation-requires-clause-ahead c =
    let is : c.deref.result.now ≡ whole c.args.tree.now = c.deref.ensures.value ∙ c.in_ok-letters.ensures ∙ ap whole c.letters.ensures.letters in
    subst (λ (xs : List ℕ). ClosesAhead (contour xs)) (sym is) (whole_ahead c.args.tree.now c.letters.ensures.valid c.requires)

pub returns : goal.returns
returns c =
    let is : c.deref.result.now ≡ whole c.args.tree.now = c.deref.ensures.value ∙ c.in_ok-letters.ensures ∙ ap whole c.letters.ensures.letters in
    subst (λ (xs : List ℕ). IfOk c.closed_rotation.result (λ sigma. IsWholeClosure (contour xs) (structure_of (record { sigma = sigma.items; root = 0 })))) is c.closed_rotation.ensures
