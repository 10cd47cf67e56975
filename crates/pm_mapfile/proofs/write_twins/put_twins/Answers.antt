use Rattle.pm_mapfile.proofs.TwinPrintLemmas.{one_more_edge}
use Rattle.pm_mapfile.proofs.write_twins.put_twins.Goals as goal

pub edges-preserved : goal.edges-preserved
edges-preserved c = one_more_edge c.edges.edge c.args.text.now.items c.edges.text.items c.put_twin_line.new.text.items c.edges.invariant c.in_ok-put_twin_line.ensures
