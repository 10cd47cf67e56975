use Rattle.pm_lehmer.specs.steps.Held.{IsHeld}
use Rattle.pm_lehmer.proofs.Held.{filled_below}
use Rattle.pm_lehmer.proofs.sets.fill.Given as goal

abbrev pub invariant-words : goal.invariant-words
invariant-words l = IsHeld l.words l.counts (filled_below l.size l.word)
