use Rattle.std.proofs.Common.{◌+◌, ◌++◌, ◌≤◌, length, arith}
use Rattle.std.specs.Prelude.{codes}
use Rattle.pm_lists.proofs.NumberLemmas.{line_goes_on}
use Rattle.pm_mapfile.proofs.write.put_vertex.Goals as goal

pub pieces-preserved : goal.pieces-preserved
pieces-preserved c =
    let within : c.pieces.start + c.min.result ≤ length c.args.vertex.now = omega (arith, c.min.ensures, c.pieces-test.true) in
    (within, line_goes_on (c.args.text.now.items ++ codes "v") c.args.vertex.now c.pieces.text.items c.put_darts.new.text.items c.pieces.start c.min.result within c.pieces.invariant.1 c.in_ok-put_darts.ensures)
