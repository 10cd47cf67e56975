use Rattle.pm_words.proofs.Heights.{IsSummedTo, IsLowestTo}
use Rattle.pm_words.proofs.starts.lowest_prefix.Given as goal

abbrev pub invariant-prefixes : goal.invariant-prefixes
invariant-prefixes l = IsSummedTo l.word l.letter-index l.sum × IsLowestTo l.word l.letter-index l.lowest
