use Rattle.std.proofs.Common.{length, ap, ◌∙◌, arith}
use Rattle.std.proofs.lemmas.Grind.{get_or_default_zero}
use Rattle.pm_medial.proofs.TwoColours.{even_is}
use Rattle.pm_medial.proofs.HalfSteps.{coloured_more, all_coloured}
use Rattle.pm_medial.proofs.colours.colours_of.Goals as goal

pub darts-preserved : goal.darts-preserved
darts-preserved c =
    let far = c.in_ok-distances.distances.items in
    rw c.in_ok-push.ensures.items
    (coloured_more far c.darts.colours.items c.darts.dart _ c.darts.invariant (even_is _ _ (c.index.ensures ∙ get_or_default_zero far c.darts.dart c.index.result.now
    (omega (arith, c.darts-test.true, ap length c.sigma-count.ensures.sigma, c.in_ok-distances.ensures.as_long)))))

pub returns : goal.returns
returns c =
    all_coloured c.args.map.now c.in_ok-distances.distances.items c.darts.colours.items c.darts.dart c.sigma-count.ensures.valid c.requires c.in_ok-distances.ensures c.darts.invariant
    (omega (arith, c.darts-test.false, c.darts.auto.dart-end, ap length c.sigma-count.ensures.sigma, c.in_ok-distances.ensures.as_long))
