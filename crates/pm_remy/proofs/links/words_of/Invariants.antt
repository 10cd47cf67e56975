use Rattle.std.proofs.Common.{◌-◌, suc, length, slice_index, vec_len}
use Rattle.pm_remy.specs.Tree.{Tree}
use Rattle.pm_remy.specs.steps.Linked.{IsHeld}
use Rattle.pm_remy.proofs.Waiting.{IsWalked}
use Rattle.pm_remy.proofs.links.words_of.Given as goal

abbrev pub invariant-nodes : goal.invariant-nodes
invariant-nodes l =
    (t : Tree) → IsHeld l.links t → IsWalked (slice_index l.links) (length l.links) t l.nodes.items l.leaf_labels.items l.ahead.items

abbrev pub decreases-nodes : goal.decreases-nodes
decreases-nodes l = suc (length l.links) - vec_len l.nodes
