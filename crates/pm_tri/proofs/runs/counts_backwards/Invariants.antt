use Rattle.pm_tri.proofs.CountsRead.{IsReadFrom}
use Rattle.pm_tri.proofs.runs.counts_backwards.Given as goal

abbrev pub invariant-letters : goal.invariant-letters
invariant-letters l = IsReadFrom l.word l.index l.counts.items
