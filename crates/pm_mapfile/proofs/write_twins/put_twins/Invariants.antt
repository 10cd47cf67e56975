use Rattle.std.proofs.Common.{◌≡◌, ◌++◌}
use Rattle.pm_mapfile.specs.TwinText.{edge_twins, twin_lines}
use Rattle.pm_mapfile.proofs.write_twins.put_twins.Given as goal

abbrev pub invariant-edges : goal.invariant-edges
invariant-edges l = l.text.items ≡ l.fn.text.items ++ twin_lines (edge_twins l.edge)
