use Rattle.pm_lehmer.specs.steps.Counted.{IsCounted}
use Rattle.pm_lehmer.proofs.Lowered.{lowered}
use Rattle.pm_lehmer.proofs.Ranked.{IsCodedFrom}
use Rattle.pm_lehmer.proofs.coding.count_later.Given as goal

abbrev pub invariant-from_last : goal.invariant-from_last
invariant-from_last l = IsCodedFrom (IsCounted l.counts) (lowered l.least l.numbers) l.code l.place
