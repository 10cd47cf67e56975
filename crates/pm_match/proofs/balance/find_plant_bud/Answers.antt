-- Each letter changes the number of leaves that are left.
use Rattle.std.proofs.Common.{◌≡◌, ℕ, suc, ◌-◌, ◌<◌, List, subst, arith, add-one}
use Rattle.pm_match.proofs.Backwards.{IsReadBack, back_none, back_leaf, back_bud, back_other, back_meets, back_free}
use Rattle.pm_match.proofs.balance.find_plant_bud.Goals as goal

-- the state at the letter before
at_letter : (letters : List ℕ) (i left : ℕ) → 0 < i → IsReadBack letters i left → IsReadBack letters (suc (i - 1)) left
at_letter letters i left some h =
    let back : i ≡ suc (i - 1) = omega arith in subst (λ (k : ℕ). IsReadBack letters k left) back h

pub back-init : goal.back-init
back-init c = (back_none c.args.letters.now, omega arith)

pub back-preserved-in-108 : goal.back-preserved-in-108
back-preserved-in-108 c =
    (back_leaf _ _ _ (omega arith) c.in-108.is (at_letter _ _ _ c.back-test.true c.back.invariant.0), omega arith)

pub returns-in-98 : goal.returns-in-98
returns-in-98 c =
    rw add-one (back_meets _ _ _ c.requires.surplus (omega arith) c.in-98.is c.if-left-eq0.true (at_letter _ _ _ c.back-test.true c.back.invariant.0))

pub back-preserved-in-98-2 : goal.back-preserved-in-98-2
back-preserved-in-98-2 c =
    (back_bud _ _ _ (omega arith) c.in-98.is (omega arith) (at_letter _ _ _ c.back-test.true c.back.invariant.0), omega arith)

pub back-preserved : goal.back-preserved
back-preserved c =
    (back_other _ _ _ (omega arith) (λ e. absurd (omega arith)) (λ e. absurd (omega arith)) (at_letter _ _ _ c.back-test.true c.back.invariant.0), omega arith)

pub returns : goal.returns
returns c =
    let none : c.back.index ≡ 0 = omega arith in
    back_free c.args.letters.now c.back.left (subst (λ (k : ℕ). IsReadBack c.args.letters.now k c.back.left) none c.back.invariant.0)
