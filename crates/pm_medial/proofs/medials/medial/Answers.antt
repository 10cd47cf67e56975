use Rattle.std.proofs.Common.{◌*◌, ap, arith}
use Rattle.pm_medial.proofs.WrittenLemmas.{written_is_medial, medial_is_rooted}
use Rattle.pm_medial.proofs.medials.medial.Goals as goal

pub from_rooted_rotation-requires : goal.from_rooted_rotation-requires
from_rooted_rotation-requires c =
    medial_is_rooted c.args.map.now _ c.edges.ensures.valid c.requires (omega (arith, c.if-edges-from.false, c.from-edges.ensures, c.from.ensures, c.edges.ensures.edges))
    (written_is_medial c.args.map.now c.in_ok-rotation.rotation.items _ c.in_ok-rotation.ensures (ap (λ r. 2 * r) c.root.ensures))

pub returns : goal.returns
returns c =
    rw c.from_rooted_rotation.ensures
    (record {
      few = omega (arith, c.if-edges-from.false, c.from-edges.ensures, c.from.ensures, c.edges.ensures.edges);
      is_medial = written_is_medial c.args.map.now c.in_ok-rotation.rotation.items _ c.in_ok-rotation.ensures (ap (λ r. 2 * r) c.root.ensures);
    })
