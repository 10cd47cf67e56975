use Rattle.pm_mapfile.proofs.PrintLemmas.{cutting_more}
use Rattle.pm_mapfile.proofs.write.put_vertices.Goals as goal

pub lines-preserved : goal.lines-preserved
lines-preserved c =
    cutting_more c.args.sizes.now c.args.darts.now c.args.text.now.items c.lines.text.items c.put_vertex.new.text.items c.lines.size-index c.lines.start c.lines.invariant c.lines-test.true c.in_ok-put_vertex.ensures
