-- As many buds wait as the counts have risen at most, and no more than letters were read.
use Rattle.pm_match.proofs.Rise.{IsWaiting}
use Rattle.pm_match.proofs.balance.is_plant_free.Given as goal

abbrev pub invariant-word : goal.invariant-word
invariant-word l = IsWaiting l.letters l.letter-index l.waiting
