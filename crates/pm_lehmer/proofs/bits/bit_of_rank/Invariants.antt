use Rattle.pm_lehmer.proofs.Ones.{IsAmong}
use Rattle.pm_lehmer.proofs.bits.bit_of_rank.Given as goal

abbrev pub invariant-halving : goal.invariant-halving
invariant-halving l = IsAmong l.word l.rank l.low l.width l.left

abbrev pub decreases-halving : goal.decreases-halving
decreases-halving l = l.width
