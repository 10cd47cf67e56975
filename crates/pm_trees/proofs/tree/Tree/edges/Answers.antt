use Rattle.std.proofs.Common.{length, ap, arith}
use Rattle.pm_trees.proofs.TreeEdges.{edges_twice}
use Rattle.pm_trees.proofs.tree.Tree.edges.Goals as goal

pub returns-clause-exact : goal.returns-clause-exact
returns-clause-exact c =
    let twice = edges_twice c.self.inside.letters.items c.self.invariant in
    let view = ap length c.self.view_is in
    omega (arith, twice, view, c.len.ensures)
