use Rattle.std.proofs.Common.{arith, refl, ◌-◌}
use Rattle.pm_trees.proofs.Spelling.{spelled_start, spelled_turn, spelled_bud, spelled_slot, spelled_same, spelled_end}
use Rattle.pm_trees.proofs.patterns.rank.Goals as goal
use Rattle.pm_trees.proofs.patterns.rank.Goals.{then-letter-eq-BUD, else-letter-eq-BUD}

pub letters-init : goal.letters-init
letters-init c = spelled_start _ _ _ _ c.requires.half c.requires.pattern refl (omega arith) c.pattern_count-total.ensures

pub bud_share-with_bud-requires-clause-slots : goal.bud_share-with_bud-requires-clause-slots
bud_share-with_bud-requires-clause-slots c = (spelled_turn _ _ _ _ _ _ c.letters-test.true c.letters.invariant).within

pub overflow_add-before : goal.overflow_add-before
overflow_add-before c =
    let h = spelled_slot _ _ _ _ _ _ _ 0 0 0 0 c.letters-test.true c.letters.invariant c.bud_share-with_bud.ensures c.if-letter-eq-BUD.false in
    omega (arith, h.sum_fits)

pub overflow_sub-total : goal.overflow_sub-total
overflow_sub-total c = (spelled_slot _ _ _ _ _ _ _ 0 0 0 0 c.letters-test.true c.letters.invariant c.bud_share-with_bud.ensures c.if-letter-eq-BUD.false).share_fits

pub overflow_sub-slots : goal.overflow_sub-slots
overflow_sub-slots c = (spelled_slot _ _ _ _ _ _ _ 0 0 0 0 c.letters-test.true c.letters.invariant c.bud_share-with_bud.ensures c.if-letter-eq-BUD.false).slots_left

pub letters-preserved : goal.letters-preserved
letters-preserved c =
    elim c.if-letter-eq-BUD.branch [
      | then-letter-eq-BUD w ↦
          spelled_same _ _ _ _ _ _ _ _ _ w.slots-is w.total-is w.before-is
          (spelled_bud _ _ _ _ _ _ _ (c.letters.left - 1) c.letters-test.true c.letters.invariant c.bud_share-with_bud.ensures w.if-letter-eq-BUD.true refl)
      | else-letter-eq-BUD w ↦
          (spelled_slot _ _ _ _ _ _ _ (c.letters.left - 1) _ _ _ c.letters-test.true c.letters.invariant c.bud_share-with_bud.ensures w.if-letter-eq-BUD.false).next refl w.slots-is w.total-is w.before-is
    ]

pub returns : goal.returns
returns c = spelled_end _ _ _ _ _ _ (omega arith) c.requires.pattern c.letters.invariant
