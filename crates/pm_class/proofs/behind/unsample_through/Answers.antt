use Rattle.std.proofs.lemmas.Result.{IfOk-weaker}
use Rattle.pm_class.proofs.ExchangedLemmas.{in_class_behind, unsampled_before}
use Rattle.pm_class.proofs.behind.unsample_through.Goals as goal

pub unsample_valid-requires-clause-size : goal.unsample_valid-requires-clause-size
unsample_valid-requires-clause-size g c =
    (c.is_one_to_one.ensures.sized c.in_ok-behind.behind c.args.size.now c.edges-edges_behind.ensures.valid).1 (
      c.requires.size,
      in_class_behind g.C.SampledThrough.image (g.C.Behind.MapClass.has c.args.size.now) (g.C.SampledThrough.contains c.args.size.now) (c.is_exchanged.ensures c.args.size.now c.requires.size) c.args.map.now c.in_ok-behind.behind
          (c.is_one_to_one.ensures.kept c.args.size.now c.requires.size) c.edges-edges.ensures.valid c.edges-edges_behind.ensures.valid c.requires.in_class c.in_ok-behind.ensures,
    )

pub returns : goal.returns
returns g c =
    IfOk-weaker c.unsample_valid.result _ _ (unsampled_before g.C.Behind.MapClass.is_size g.C.Behind.MapClass.choice_limits g.C.Behind.MapClass.residue_limits g.C.Behind.MapClass.has g.C.SampledThrough.contains
    g.C.Behind.MapClass.answers g.C.Behind.MapClass.samples g.C.SampledThrough.image c.is_one_to_one.ensures.sized c.is_one_to_one.ensures.one_answer c.is_one_to_one.ensures.one_to_one c.is_one_to_one.ensures.kept
    c.is_exchanged.ensures c.args.size.now c.args.map.now c.in_ok-behind.behind c.args.residue.now c.requires.size c.edges-edges.ensures.valid c.edges-edges_behind.ensures.valid c.requires.in_class c.in_ok-behind.ensures) c.unsample_valid.ensures
