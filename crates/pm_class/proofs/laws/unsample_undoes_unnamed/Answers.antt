use Rattle.pm_class.proofs.UndoingLemmas.{unsampling_undoes_unnamed}
use Rattle.pm_class.proofs.laws.unsample_undoes_unnamed.Goals as goal

pub returns : goal.returns
returns g c =
    unsampling_undoes_unnamed g.C.MapClass.is_size g.C.MapClass.choice_limits g.C.MapClass.residue_limits g.C.MapClass.has g.C.MapClass.answers g.C.MapClass.samples
    c.is_one_to_one.ensures.sized c.is_one_to_one.ensures.one_answer c.is_one_to_one.ensures.one_to_one c.is_one_to_one.ensures.kept
