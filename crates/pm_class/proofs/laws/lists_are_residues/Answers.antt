use Rattle.pm_class.proofs.UndoingLemmas.{lists_are_residues}
use Rattle.pm_class.proofs.laws.lists_are_residues.Goals as goal

pub returns : goal.returns
returns g c =
    lists_are_residues g.C.MapClass.is_size g.C.MapClass.choice_limits g.C.MapClass.residue_limits g.C.MapClass.has g.C.MapClass.answers g.C.MapClass.samples
    c.is_one_to_one.ensures.sized c.is_one_to_one.ensures.one_answer c.is_one_to_one.ensures.one_to_one
