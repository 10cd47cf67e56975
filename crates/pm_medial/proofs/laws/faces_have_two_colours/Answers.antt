use Rattle.pm_medial.proofs.TwoColours.{faces_have_two_colours, colouring_is_unique}
use Rattle.pm_medial.proofs.laws.faces_have_two_colours.Goals as goal

pub returns-clause-exactly : goal.returns-clause-exactly
returns-clause-exactly c = faces_have_two_colours

pub returns-clause-unique : goal.returns-clause-unique
returns-clause-unique c = colouring_is_unique
