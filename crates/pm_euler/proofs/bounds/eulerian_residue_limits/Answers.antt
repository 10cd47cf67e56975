use Rattle.std.proofs.Common.{◌≡◌, ◌+◌, ◌-◌, arith}
use Rattle.pm_euler.specs.Objects.{leaves_of_profile}
use Rattle.pm_euler.proofs.EulerianBounds.{residue_limits_are}
use Rattle.pm_euler.proofs.bounds.eulerian_residue_limits.Goals as goal

pub returns : goal.returns
returns c =
    let leaves : c.edges-objects.result + 1 - c.nodes_of.result ≡ leaves_of_profile c.args.profile.now = (let e = c.edges-objects.ensures.edges in let n = c.nodes_of.ensures.nodes in omega (arith, e, n)) in
    residue_limits_are c.args.profile.now c.pairs-pair-items.result.now c.loop-pair.pair-index (c.edges-objects.result + 1 - c.nodes_of.result) (c.from-2.result + 1) c.loop-pair.limits.items c.push_code_bounds-2.new.bounds.items c.push-2.new.self.items
    c.pairs-pair-items.ensures.pairs c.loop-pair-test.false c.loop-pair.invariant leaves c.in_ok-push_code_bounds-2.ensures (let e = c.from-2.ensures in omega (arith, e)) c.in_ok-push-2.ensures.items
