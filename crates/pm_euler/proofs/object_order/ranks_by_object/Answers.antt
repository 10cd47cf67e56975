use Rattle.std.proofs.Common.{slice_index, slice_set, refl, arith}
use Rattle.pm_euler.proofs.ObjectPlaces.{ranked_one}
use Rattle.pm_euler.proofs.object_order.ranks_by_object.Goals as goal

pub index_mut-requires : goal.index_mut-requires
index_mut-requires c =
    let within = c.requires.nodes c.kinds.place c.in-Node.half c.in-Node.rank c.kinds-test.true c.in-Node.is in
    let long = c.kinds.invariant.long in
    omega (arith, within, long)

pub kinds-preserved : goal.kinds-preserved
kinds-preserved c =
    ranked_one c.args.nodes c.args.kinds.now c.args.objects.now c.kinds.ranks.items (slice_set c.kinds.ranks.items (slice_index c.args.objects.now c.kinds.place) c.in-Node.rank) c.kinds.place c.in-Node.half c.in-Node.rank c.requires.permute
    c.kinds.invariant (let less = c.kinds-test.true in let long = c.requires.as_long in omega (arith, less, long)) (c.requires.nodes c.kinds.place c.in-Node.half c.in-Node.rank c.kinds-test.true c.in-Node.is) c.in-Node.is refl
