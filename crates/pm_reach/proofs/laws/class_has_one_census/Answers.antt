use Rattle.pm_reach.proofs.OneCensus.{one_census}
use Rattle.pm_reach.proofs.SomeCensus.{some_census}
use Rattle.pm_reach.proofs.laws.class_has_one_census.Goals as goal

pub returns-clause-exists : goal.returns-clause-exists
returns-clause-exists g c = λ size is.
    some_census (g.C.MapClass.choice_limits size) (g.C.MapClass.residue_limits size) (g.C.MapClass.has size) (g.C.MapClass.samples size) (c.is_one_to_one.ensures.one_to_one size is)

pub returns-clause-one : goal.returns-clause-one
returns-clause-one g c = λ size one other is a b.
    one_census (g.C.MapClass.choice_limits size) (g.C.MapClass.samples size) one other (c.is_one_to_one.ensures.one_to_one size is).one_sample a b
