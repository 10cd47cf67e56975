use Rattle.std.proofs.Common.{◌/◌, ◌*◌, ◌<◌, slice_index, arith}
use Rattle.pm_remy.specs.steps.Noted.{root_upto}
use Rattle.pm_remy.proofs.Descent.{met-step, met-odd, met-end}
use Rattle.pm_remy.proofs.ungrowing.root_before.Goals as goal

pub nodes-preserved : goal.nodes-preserved
nodes-preserved c =
    let f = slice_index c.args.choices.now in
    let above : 2 * c.args.label < c.nodes.node = omega (arith, c.nodes-test.true) in
    let some = c.requires.noted in
    let odd = met-odd f c.args.label c.nodes.node (root_upto c.args.label some.0) (c.nodes.invariant.met some.0 some.1) above in
    let least_root = c.nodes.invariant.low in
    let entry = c.requires.valid (c.nodes.node / 2) (omega (arith, odd, least_root, c.requires.root_in)) in
    record {
      low = omega (arith, entry, odd, least_root);
      met = λ t h. met-step f c.args.label c.nodes.node (root_upto c.args.label t) (c.nodes.invariant.met t h) above;
    }

pub returns-clause-root : goal.returns-clause-root
returns-clause-root c =
    λ t h.
    met-end (slice_index c.args.choices.now) c.args.label c.nodes.node (root_upto c.args.label t) (c.nodes.invariant.met t h) (omega (arith, c.nodes-test.false))
