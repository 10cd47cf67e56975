use Rattle.std.proofs.Common.{◌/◌, refl, ap, ◌∙◌, arith}
use Rattle.std.specs.Prelude.{slice_index}
use Rattle.pm_map.specs.Rotation.{twin}
use Rattle.pm_medial.proofs.HalfSteps.{half_more}
use Rattle.pm_medial.proofs.unmedials.write_rotation.Goals as goal

pub edges-preserved : goal.edges-preserved
edges-preserved c =
    half_more c.args.map.now c.args.colours.now c.args.darts.now c.edges.rotation c.edges.edge _ _ c.requires.permutation
    (omega (arith, c.edges-test.true, c.edges-edge-end.ensures.edges, c.requires.half)) c.edges.invariant refl
    (ap (λ p. slice_index c.args.darts.now (p / 2))
    (c.next-before.ensures ∙ ap (slice_index c.args.map.now.sigma)
    (c.next-across.ensures ∙ ap (slice_index c.args.map.now.sigma)
    (c.next-after.ensures ∙ ap (slice_index c.args.map.now.sigma) (c.twin-minus.ensures ∙ ap twin c.plus_of_edge.ensures)))))
