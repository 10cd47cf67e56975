use Rattle.pm_lehmer.specs.steps.Held.{IsHeld}
use Rattle.pm_lehmer.proofs.Lowered.{lowered}
use Rattle.pm_lehmer.proofs.Ranked.{IsCodedFrom}
use Rattle.pm_lehmer.proofs.coding.count_different.Given as goal

abbrev pub invariant-different : goal.invariant-different
invariant-different l = IsCodedFrom (IsHeld l.words l.counts) (lowered l.least l.numbers) l.code l.place
