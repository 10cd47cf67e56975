use Rattle.pm_class.proofs.UndoingLemmas.{sampling_undoes}
use Rattle.pm_class.proofs.laws.sample_undoes_unsample.Goals as goal

pub returns : goal.returns
returns g c =
    sampling_undoes g.C.MapClass.is_size g.C.MapClass.choice_limits g.C.MapClass.residue_limits g.C.MapClass.has g.C.MapClass.answers g.C.MapClass.samples
    c.is_one_to_one.ensures.sized c.is_one_to_one.ensures.one_answer c.is_one_to_one.ensures.one_to_one
