use Rattle.std.proofs.Common.{ℕ, List, length, refl, sym, ap, ◌∙◌, subst, arith}
use Rattle.std.specs.Prelude.{slice_index}
use Rattle.pm_trees.specs.Word.{contour}
use Rattle.pm_close.specs.steps.Numbered.{IsNumbered}
use Rattle.pm_close.specs.steps.Twins.{IsTwinList}
use Rattle.pm_close.proofs.ClosedMap.{is_made, twin_list_twins, darts_permute, across_below, made_is_closed, made_numbered}
use Rattle.pm_close.proofs.PlaneMap.{rooted_closure}
use Rattle.pm_close.proofs.closing.number.Goals as goal

pub darts_of-requires-clause-twinning : goal.darts_of-requires-clause-twinning
darts_of-requires-clause-twinning c =
    twin_list_twins (contour c.args.tree.now) c.args.across.now c.deref.result.now c.args.pairing.now c.requires.bracketing c.requires.pairing
    (subst (λ (xs : List ℕ). IsTwinList (contour c.args.tree.now) xs) (sym c.deref.ensures.value) c.in_ok-twins.ensures)

pub rotation_of-requires-clause-permutation : goal.rotation_of-requires-clause-permutation
rotation_of-requires-clause-permutation c =
    let twinning = twin_list_twins (contour c.args.tree.now) c.args.across.now c.deref.result.now c.args.pairing.now c.requires.bracketing c.requires.pairing
    (subst (λ (xs : List ℕ). IsTwinList (contour c.args.tree.now) xs) (sym c.deref.ensures.value) c.in_ok-twins.ensures) in
    darts_permute c.deref.result.now c.deref-2.result.now twinning (ap length c.deref-2.ensures.value ∙ c.in_ok-darts.ensures.length)
    (λ p l. ap (λ (xs : List ℕ). slice_index xs p) c.deref-2.ensures.value ∙ c.in_ok-darts.ensures.each p l)

pub rotation_of-requires-clause-within : goal.rotation_of-requires-clause-within
rotation_of-requires-clause-within c = across_below (contour c.args.tree.now) c.args.across.now c.deref-2.result.now c.requires.bracketing

pub from_rooted_rotation-requires : goal.from_rooted_rotation-requires
from_rooted_rotation-requires c =
    let made = is_made (contour c.args.tree.now) c.args.across.now c.args.across.now c.in_ok-twins.twins.items c.deref.result.now c.in_ok-darts.darts.items
    c.deref-2.result.now c.in_ok-sigma.sigma.items c.args.pairing.now refl c.deref.ensures.value c.deref-2.ensures.value
    c.requires.bracketing c.requires.pairing c.in_ok-twins.ensures c.in_ok-darts.ensures.length c.in_ok-darts.ensures.each c.in_ok-sigma.ensures.length c.in_ok-sigma.ensures.each in
    rooted_closure c.args.tree.now _ c.letters-letters.ensures.valid c.requires.balanced (made_is_closed _ _ _ _ _ _ made (omega arith))

pub returns : goal.returns
returns c =
    let made = is_made (contour c.args.tree.now) c.args.across.now c.args.across.now c.in_ok-twins.twins.items c.deref.result.now c.in_ok-darts.darts.items
    c.deref-2.result.now c.in_ok-sigma.sigma.items c.args.pairing.now refl c.deref.ensures.value c.deref-2.ensures.value
    c.requires.bracketing c.requires.pairing c.in_ok-twins.ensures c.in_ok-darts.ensures.length c.in_ok-darts.ensures.each c.in_ok-sigma.ensures.length c.in_ok-sigma.ensures.each in
    subst (IsNumbered (contour c.args.tree.now) c.from_rooted_rotation.result) c.deref-2.ensures.value
    (made_numbered _ _ _ _ _ _ made c.from_rooted_rotation.result c.from_rooted_rotation.ensures (omega arith))
