use Rattle.pm_trees.proofs.Walk.{IsWalking}
use Rattle.pm_trees.proofs.nodes.node_faults.Given as goal

abbrev pub invariant-letters : goal.invariant-letters
invariant-letters l = IsWalking l.word l.node l.parents.items l.faults l.i
