use Rattle.pm_map.specs.Rotation.{structure_of}
use Rattle.pm_medial.proofs.UnmedialSteps.{all_even, least_odd}
use Rattle.pm_medial.proofs.colours.colour.Goals as goal

pub returns-in-Some : goal.returns-in-Some
returns-in-Some c = least_odd c.args.map.now c.in-Some.dart _ c.edges.ensures.valid c.edges.ensures.edges (rw c.in-Some.is at c.in_ok-dart.ensures)

pub colours_of-requires : goal.colours_of-requires
colours_of-requires c = all_even (structure_of c.args.map.now) _ (rw c.in_default.is at c.in_ok-dart.ensures)
