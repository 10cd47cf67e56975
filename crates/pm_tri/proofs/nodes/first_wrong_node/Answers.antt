use Rattle.std.proofs.Common.{arith, ◌+◌, refl}
use Rattle.pm_tri.proofs.StemLetters.{letter_is_stem}
use Rattle.pm_tri.proofs.Walk.{walking_close, walking_end, walking_open, walking_parent, walking_room, walking_same, walking_start, walking_stem}
use Rattle.pm_tri.proofs.nodes.first_wrong_node.Goals as goal
use Rattle.pm_tri.proofs.nodes.first_wrong_node.Goals.{then-letter-eq-CLOSE, else-letter-eq-CLOSE+then-letter-eq-OPEN+in_ok-push, else-letter-eq-CLOSE+else-letter-eq-OPEN}

pub letters-init : goal.letters-init
letters-init c = walking_start _ _ _ _ refl refl refl c.new-parents.ensures.items

pub unwrap-node-requires : goal.unwrap-node-requires
unwrap-node-requires c = c.pop.ensures.variant.1 (let h = walking_parent _ _ _ _ _ c.requires.in_order c.if-letter-eq-CLOSE.true c.letters.invariant in omega arith)

pub overflow_add-node-else-letter-eq-OPEN : goal.overflow_add-node-else-letter-eq-OPEN
overflow_add-node-else-letter-eq-OPEN c = let h = walking_room _ _ _ _ _ c.letters.invariant in let l = c.letters-test.true in let m = c.requires.small in omega arith

pub letters-preserved : goal.letters-preserved
letters-preserved c =
    elim c.if-letter-eq-CLOSE.branch [
      | then-letter-eq-CLOSE w ↦
          walking_same _ w.unwrap-node.result _ w.pop.new.self.items _ w.with_node-found.result _ _ _ w.node-is (cc) w.found-is (omega arith)
          (walking_close _ _ _ _ _ w.pop.result _ _ c.letters.i w.if-letter-eq-CLOSE.true w.with_node-found.ensures w.pop.ensures.items w.unwrap-node.ensures c.letters.invariant)
      | else-letter-eq-CLOSE+then-letter-eq-OPEN+in_ok-push w ↦
          walking_same _ (record { place = c.letters.i + 1; stems = 0 }) _ w.push.new.self.items _ c.letters.found _ _ _ w.node-is (cc) w.found-is (omega arith)
          (walking_open _ _ _ _ _ _ c.letters.i w.if-letter-eq-OPEN.true w.in_ok-push.ensures.items (omega arith) refl c.letters.invariant)
      | else-letter-eq-CLOSE+else-letter-eq-OPEN w ↦
          walking_same _ (record { place = c.letters.node.place; stems = c.letters.node.stems + 1 }) _ c.letters.parents.items _ c.letters.found _ _ _ w.node-is (cc) w.found-is (omega arith)
          (walking_stem _ _ _ _ _ c.letters.i
          (letter_is_stem _ _ c.requires.in_order c.letters-test.true (record { not_open = w.if-letter-eq-OPEN.false; not_close = w.if-letter-eq-CLOSE.false })) refl (omega arith) c.letters.invariant)
    ]

pub returns : goal.returns
returns c = walking_end _ _ _ _ _ c.letters.i (let l = c.letters-test.false in let h = c.letters.auto.i-end in omega arith) c.requires.in_order c.with_node.ensures c.letters.invariant
