use Rattle.pm_reach.proofs.CountedResidues.{number_is_product}
use Rattle.pm_reach.proofs.laws.census_counts_residues.Goals as goal

pub returns : goal.returns
returns g c = λ size entries map is census member.
    number_is_product (g.C.MapClass.choice_limits size) (g.C.MapClass.residue_limits size) (g.C.MapClass.has size) (g.C.MapClass.samples size) entries map
    (c.is_one_to_one.ensures.one_to_one size is) census member
