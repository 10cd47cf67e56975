use Rattle.pm_reach.proofs.StandingMaps.{has_each_map_once}
use Rattle.pm_reach.proofs.laws.census_has_each_map_once.Goals as goal

pub returns : goal.returns
returns g c = λ size entries is census.
    has_each_map_once (g.C.MapClass.choice_limits size) (g.C.MapClass.residue_limits size) (g.C.MapClass.has size) (g.C.MapClass.samples size) entries
    (c.is_one_to_one.ensures.limits size is).residue_bounds (c.is_one_to_one.ensures.one_to_one size is) census
