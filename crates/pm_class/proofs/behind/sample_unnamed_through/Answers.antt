use Rattle.pm_class.proofs.ExchangedLemmas.{unnamed_before}
use Rattle.pm_class.proofs.UnnamedLemmas.{unnamed_in_class}
use Rattle.pm_class.proofs.behind.sample_unnamed_through.Goals as goal

pub returns : goal.returns
returns g c =
    unnamed_before g.C.SampledThrough.image (g.C.Behind.MapClass.has c.args.size.now) (g.C.SampledThrough.contains c.args.size.now) (c.is_exchanged.ensures c.args.size.now c.requires.size)
    (g.C.Behind.MapClass.choice_limits c.args.size.now) (g.C.Behind.MapClass.residue_limits c.args.size.now) (g.C.Behind.MapClass.samples c.args.size.now)
    (c.is_one_to_one.ensures.one_to_one c.args.size.now c.requires.size) (c.is_one_to_one.ensures.kept c.args.size.now c.requires.size) c.args.choices.now c.in_ok-behind.behind c.in_ok-map.map
    c.in_ok-behind.ensures c.edges-edges.ensures.valid c.in_ok-map.ensures

pub map_of-requires-clause-in_class : goal.map_of-requires-clause-in_class
map_of-requires-clause-in_class g c =
    unnamed_in_class _ _ _ _ c.args.choices.now c.in_ok-behind.behind (c.is_one_to_one.ensures.kept c.args.size.now c.requires.size) c.in_ok-behind.ensures
