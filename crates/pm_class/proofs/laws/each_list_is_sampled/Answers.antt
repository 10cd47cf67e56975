use Rattle.pm_class.proofs.OneToOneLemmas.{each_is_sampled}
use Rattle.pm_class.proofs.laws.each_list_is_sampled.Goals as goal

pub returns : goal.returns
returns g c size is =
    each_is_sampled (g.C.MapClass.choice_limits size) (g.C.MapClass.residue_limits size) (g.C.MapClass.has size) (g.C.MapClass.samples size) (c.is_one_to_one.ensures.one_to_one size is)
