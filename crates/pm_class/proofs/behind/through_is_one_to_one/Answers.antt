use Rattle.pm_class.proofs.ExchangedLemmas.{exchanged}
use Rattle.pm_class.proofs.behind.through_is_one_to_one.Goals as goal

pub returns : goal.returns
returns g c size is =
    exchanged g.C.SampledThrough.image (g.C.Behind.MapClass.has size) (g.C.SampledThrough.contains size) (c.is_exchanged.ensures size is) (g.C.Behind.MapClass.choice_limits size) (g.C.Behind.MapClass.residue_limits size)
    (g.C.Behind.MapClass.samples size) (c.is_one_to_one.ensures.one_to_one size is) (c.is_one_to_one.ensures.kept size is)
