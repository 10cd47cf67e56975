use Rattle.std.proofs.Common.{arith, refl, ◌<◌, ◌-◌, length}
use Rattle.pm_trees.proofs.Spelling.{writing_turn, writing_has_slot, writing_bud, writing_slot, writing_same, writing_end}
use Rattle.pm_trees.proofs.patterns.pattern.Goals as goal
use Rattle.pm_trees.proofs.patterns.pattern.Goals.{then-rest-with_bud, else-rest-with_bud}

pub bud_share-with_bud-requires-clause-slots : goal.bud_share-with_bud-requires-clause-slots
bud_share-with_bud-requires-clause-slots c = (writing_turn _ _ _ _ _ _ _ _ (omega arith) c.letters.invariant).within

pub overflow_sub-slots : goal.overflow_sub-slots
overflow_sub-slots c = writing_has_slot _ _ _ _ _ _ _ _ _ (omega arith) c.letters.invariant c.bud_share-with_bud.ensures c.if-rest-with_bud.false

pub letters-preserved : goal.letters-preserved
letters-preserved c =
    let inside : c.letters.letter-index < length c.letters.out = omega arith in
    elim c.if-rest-with_bud.branch [
      | then-rest-with_bud w ↦
          writing_same _ _ _ _ _ _ _ _ _ _ _ w.slots-is w.total-is w.rest-is
          (writing_bud _ _ _ c.if-rest-with_bud.out _ _ _ _ _ _ (c.letters.left - 1) inside c.letters.invariant c.bud_share-with_bud.ensures w.if-rest-with_bud.true w.out-is refl)
      | else-rest-with_bud w ↦
          writing_slot _ _ _ c.if-rest-with_bud.out _ _ _ _ _ _ (c.letters.left - 1) _ _ _ inside c.letters.invariant c.bud_share-with_bud.ensures w.if-rest-with_bud.false w.out-is refl w.slots-is w.total-is w.rest-is
    ]

pub returns : goal.returns
returns c = writing_end _ _ _ _ _ _ _ _ (omega arith) c.letters.invariant
