use Rattle.std.proofs.Common.{length}
use Rattle.pm_mapfile.proofs.ReadLemmas.{IsReadSoFar}
use Rattle.pm_mapfile.proofs.read.read_map_text.Given as goal

abbrev pub invariant-lines : goal.invariant-lines
invariant-lines l = IsReadSoFar l.fn.bytes l.first.edges l.first.root l.darts.items l.sizes.items l.lines

abbrev pub decreases-lines : goal.decreases-lines
decreases-lines l = length l.lines.rest
