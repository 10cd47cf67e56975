use Rattle.std.proofs.Common.{◌/◌, ap, ◌∙◌}
use Rattle.std.specs.Prelude.{slice_index}
use Rattle.pm_medial.proofs.HalfSteps.{edges_more}
use Rattle.pm_medial.proofs.unmedials.twins_of.Goals as goal

pub edges-preserved : goal.edges-preserved
edges-preserved c =
    rw c.in_ok-push.ensures.items
    (edges_more c.args.map.now c.args.colours.now c.edges.twins.items c.edges.edge _ c.edges.invariant
    (ap (λ p. p / 2) (c.next-across.ensures ∙ ap (slice_index c.args.map.now.sigma) (c.next-minus.ensures ∙ ap (slice_index c.args.map.now.sigma) c.plus_of_edge-plus.ensures))))
