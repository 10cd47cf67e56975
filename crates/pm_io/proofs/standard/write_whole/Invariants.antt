-- A prefix of the piece was added, and what is left to write is the rest of it.
use Rattle.std.proofs.Common.{length}
use Rattle.pm_io.proofs.Writes.{IsWritten}
use Rattle.pm_io.proofs.standard.write_whole.Given as goal

abbrev pub invariant-rest : goal.invariant-rest
invariant-rest g l = IsWritten (g.W.Write.contents l.initial.writer) (g.W.Write.contents l.writer) l.piece l.rest

abbrev pub decreases-rest : goal.decreases-rest
decreases-rest g l = length l.rest
