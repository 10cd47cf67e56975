use Rattle.pm_trees.specs.Word.{contour}
use Rattle.pm_close.specs.steps.Joining.{IsJoined}
use Rattle.pm_close.proofs.joining.twins_of.Given as goal

abbrev pub invariant-loop-pair : goal.invariant-loop-pair
invariant-loop-pair l = IsJoined (contour l.tree) l.across l.pairing.pairs l.pair-index l.twins.items
