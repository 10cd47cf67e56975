use Rattle.std.proofs.Common.{◌+◌, ◌++◌, ◌≤◌, length, arith}
use Rattle.pm_lists.proofs.NumberLemmas.{line_goes_on, line_is_put}
use Rattle.pm_lists.proofs.put.put_line.Goals as goal

pub pieces-preserved : goal.pieces-preserved
pieces-preserved c =
    let within : c.pieces.start + c.min.result ≤ length c.args.values.now = omega (arith, c.min.ensures, c.pieces-test.true) in
    (within, line_goes_on (c.args.text.now.items ++ c.args.tag.now) c.args.values.now c.pieces.text.items c.put_numbers.new.text.items c.pieces.start c.min.result within c.pieces.invariant.1 c.in_ok-put_numbers.ensures)

pub returns-clause-line : goal.returns-clause-line
returns-clause-line c =
    line_is_put c.args.tag.now c.args.values.now c.args.text.now.items c.pieces.text.items c.push.new.self.items c.pieces.start (omega (arith, c.pieces-test.false)) c.pieces.invariant.1 c.in_ok-push.ensures.items
