use Rattle.std.proofs.Common.{arith, ◌+◌, refl}
use Rattle.pm_trees.proofs.Walk.{walking_start, walking_other, walking_open, walking_close, walking_end, walking_entries, walking_buds, walking_parent, walking_same, entry_from}
use Rattle.pm_trees.proofs.nodes.node_faults.Goals as goal
use Rattle.pm_trees.proofs.nodes.node_faults.Goals.{then-letter-eq-CLOSE, else-letter-eq-CLOSE+then-letter-eq-OPEN+in_ok-push, else-letter-eq-CLOSE+else-letter-eq-OPEN}

pub letters-init : goal.letters-init
letters-init c = walking_start _ _ _ _ refl refl refl refl refl c.new-parents.ensures.items

pub unwrap-node-requires : goal.unwrap-node-requires
unwrap-node-requires c = c.pop.ensures.variant.1 (let h = walking_parent _ _ _ _ _ c.requires.in_order c.if-letter-eq-CLOSE.true c.letters.invariant in omega arith)

pub with_entry-node-requires : goal.with_entry-node-requires
with_entry-node-requires c = record {
  entries = (let h = walking_entries _ _ _ _ _ c.letters-test.true c.letters.invariant in omega arith);
  buds = λ e. (let h = walking_buds _ _ _ _ _ c.letters-test.true c.letters.invariant in omega arith);
}

pub letters-preserved : goal.letters-preserved
letters-preserved c =
    elim c.if-letter-eq-CLOSE.branch [
      | then-letter-eq-CLOSE w ↦
          walking_same _ w.unwrap-node.result _ w.pop.new.self.items _ w.with_node-faults.result _ _ _ w.node-is (cc) w.faults-is (omega arith)
          (walking_close _ _ _ _ _ w.pop.result _ _ c.letters.i c.requires.in_order w.if-letter-eq-CLOSE.true w.with_node-faults.ensures.degree w.with_node-faults.ensures.buds w.pop.ensures.items w.unwrap-node.ensures c.letters.invariant)
      | else-letter-eq-CLOSE+then-letter-eq-OPEN+in_ok-push w ↦
          walking_same _ (record { place = c.letters.i + 1; entries = 0; buds = 0 }) _ w.push.new.self.items _ c.letters.faults _ _ _ w.node-is (cc) w.faults-is (omega arith)
          (walking_open _ _ w.with_entry-node.result _ _ _ _ c.letters.i w.if-letter-eq-OPEN.true (entry_from _ _ _ w.with_entry-node.ensures) w.in_ok-push.ensures.items (omega arith) refl refl c.letters.invariant)
      | else-letter-eq-CLOSE+else-letter-eq-OPEN w ↦
          walking_same _ w.with_entry-node.result _ c.letters.parents.items _ c.letters.faults _ _ _ w.node-is (cc) w.faults-is (omega arith)
          (walking_other _ _ _ _ _ c.letters.i c.letters-test.true (record { not_open = w.if-letter-eq-OPEN.false; not_close = w.if-letter-eq-CLOSE.false }) (entry_from _ _ _ w.with_entry-node.ensures) c.letters.invariant)
    ]

pub returns-clause-degree : goal.returns-clause-degree
returns-clause-degree c =
    (walking_end _ _ _ _ _ c.letters.i (omega arith) c.requires.in_order c.with_node.ensures.degree c.with_node.ensures.buds c.letters.invariant).degree

pub returns-clause-buds : goal.returns-clause-buds
returns-clause-buds c =
    (walking_end _ _ _ _ _ c.letters.i (omega arith) c.requires.in_order c.with_node.ensures.degree c.with_node.ensures.buds c.letters.invariant).buds
