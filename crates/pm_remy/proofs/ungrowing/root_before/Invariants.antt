use Rattle.std.proofs.Common.{◌≤◌, slice_index}
use Rattle.pm_remy.specs.Tree.{Tree}
use Rattle.pm_remy.specs.steps.Noted.{root_upto, IsNotedTree}
use Rattle.pm_remy.proofs.Descent.{IsMet}
use Rattle.pm_remy.proofs.ungrowing.root_before.Given as goal

abbrev pub invariant-nodes : goal.invariant-nodes
invariant-nodes l =
    record {
      low : l.node ≤ l.fn.subtree.root;
      met : (t : Tree) → IsNotedTree l.choices l.fn.subtree.root l.fn.subtree.least t → IsMet (slice_index l.choices) l.label l.node (root_upto l.label t);
    }

abbrev pub decreases-nodes : goal.decreases-nodes
decreases-nodes l = l.node
