use Rattle.std.proofs.Common.{◌≡◌, ◌-◌, length, arith}
use Rattle.pm_map.specs.Rotation.{structure_of}
use Rattle.pm_canon.proofs.KeptLemmas.{HasEachOnce-length}
use Rattle.pm_canon.proofs.ListLemmas.{sized_more}
use Rattle.pm_canon.proofs.meeting.append_sized.Goals as goal

pub overflow_cast-len : goal.overflow_cast-len
overflow_cast-len c =
    omega (arith, HasEachOnce-length _ _ c.in_ok-append_vertex.ensures.kept.once, c.len.ensures, c.append_vertex.new.darts.ok.0, c.requires.map.few)

pub returns-clause-sized : goal.returns-clause-sized
returns-clause-sized c =
    let s = structure_of (record { sigma = c.args.sigma.now; root = c.args.root }) in
    let size : c.len.result - c.len-before.result ≡ length c.append_vertex.new.darts.items - length c.args.darts.now.items =
    omega (arith, c.len.ensures, c.len-before.ensures, c.append_vertex.new.darts.ok.0, c.args.darts.now.ok.0) in
    rw c.in_ok-push.ensures.items
    (sized_more s c.args.start (c.len.result - c.len-before.result) c.args.darts.now.items c.append_vertex.new.darts.items c.args.sizes.now.items c.requires.sized c.in_ok-append_vertex.ensures.appended size)
