use Rattle.pm_words.proofs.Heights.{IsSummedTo}
use Rattle.pm_words.proofs.Records.{HasRecords}
use Rattle.pm_words.proofs.starts.good_starts.Given as goal

abbrev pub invariant-prefixes : goal.invariant-prefixes
invariant-prefixes l = IsSummedTo l.word l.start l.sum × HasRecords l.word l.bound l.start l.least l.starts.items
