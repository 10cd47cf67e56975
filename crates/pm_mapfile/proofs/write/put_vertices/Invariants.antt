use Rattle.pm_mapfile.proofs.PrintLemmas.{IsCutting}
use Rattle.pm_mapfile.proofs.write.put_vertices.Given as goal

abbrev pub invariant-lines : goal.invariant-lines
invariant-lines l = IsCutting l.sizes l.darts l.fn.text.items l.text.items l.size-index l.start
