use Rattle.pm_map.specs.Rotation.{structure_of}
use Rattle.pm_reach.specs.steps.Telling.{TellsAround}
use Rattle.pm_reach.proofs.layering.tell_face.Given as goal

abbrev pub invariant-around : goal.invariant-around
invariant-around l =
    (goal.iterator-around).can_next l.other-iterator ×
    (goal.iterator-around).is_finite l.other-iterator ×
    TellsAround (structure_of l.map) l.dart l.other-iterator l.fn.told l.fn.parents l.told l.parents
