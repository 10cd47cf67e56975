use Rattle.pm_tri.proofs.Walk.{IsWalking}
use Rattle.pm_tri.proofs.nodes.first_wrong_node.Given as goal

abbrev pub invariant-letters : goal.invariant-letters
invariant-letters l = IsWalking l.word l.node l.parents.items l.found l.i
