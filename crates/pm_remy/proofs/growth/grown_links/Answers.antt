use Rattle.std.proofs.Common.{◌≡◌, ◌*◌, ℕ, suc, IfOk, Result, Ok, Err, List, length, drop, subst, sym, ap, ◌∙◌, arith}
use Rattle.std.proofs.lemmas.List.{take_at}
use Rattle.pm_perm.specs.Lists.{IsInverseList}
use Rattle.pm_remy.specs.Tree.{leaves}
use Rattle.pm_remy.specs.Growth.{grown, IsChoices}
use Rattle.pm_remy.specs.steps.Linked.{IsHeld, ArePlaces}
use Rattle.pm_remy.proofs.Placing.{places-permuted, inverse-in, held-in}
use Rattle.pm_remy.proofs.Unwinding.{leaves-grown_by}
use Rattle.pm_remy.proofs.growth.grown_links.Goals as goal

-- the list as it stands is the one that was filled
placed : (P D cs : List ℕ) → D ≡ P → ArePlaces P (grown cs) → ArePlaces D (grown cs)
placed P D cs e h = subst (λ (xs : List ℕ). ArePlaces xs (grown cs)) (sym e) h

full : (D cs : List ℕ) → IsChoices cs → length D ≡ suc (2 * length cs) → suc (length D) ≡ 2 * leaves (grown cs)
full D cs h e = omega (arith, leaves-grown_by cs (length cs) h (omega arith))

pub inverse-requires-clause-permutation : goal.inverse-requires-clause-permutation
inverse-requires-clause-permutation c =
    let cs = c.args.choices.now in
    let P = c.add_leaves.new.places in
    let D = c.deref.result.now in
    let long : length P ≡ c.in_ok-places.places.len = c.add_leaves.auto.places ∙ c.deref_mut.ensures.len in
    let same : D ≡ P = c.deref.ensures.value ∙ take_at P (drop (length P) c.in_ok-places.places.items) c.in_ok-places.places.len long in
    places-permuted D (grown cs) (placed P D cs same c.add_leaves.ensures)
    (full D cs c.requires.valid (omega (arith, ap length same, long, c.in_ok-places.ensures.len)))

if_ok_from : {X Y : Type 0} (r : Result X Y) (P Q : X → Type 0) → ((x : X) → P x → Q x) → IfOk r P → IfOk r Q
if_ok_from (Ok x) P Q f h = f x h
if_ok_from (Err e) P Q f h = tt

pub returns-clause-tree : goal.returns-clause-tree
returns-clause-tree c =
    let cs = c.args.choices.now in
    let P = c.add_leaves.new.places in
    let D = c.deref.result.now in
    let long : length P ≡ c.in_ok-places.places.len = c.add_leaves.auto.places ∙ c.deref_mut.ensures.len in
    let same : D ≡ P = c.deref.ensures.value ∙ take_at P (drop (length P) c.in_ok-places.places.items) c.in_ok-places.places.len long in
    let size = full D cs c.requires.valid (omega (arith, ap length same, long, c.in_ok-places.ensures.len)) in
    if_ok_from c.inverse.result (λ v. IsInverseList D v.items) (λ v. IsHeld v.items (grown cs))
    (λ v h. held-in v.items D (grown cs) (inverse-in D v.items (grown cs) (placed P D cs same c.add_leaves.ensures) size h)) c.inverse.ensures.inverse
