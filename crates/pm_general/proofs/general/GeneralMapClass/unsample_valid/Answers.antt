use Rattle.std.proofs.Common.{◌∙◌, arith}
use Rattle.std.proofs.lemmas.Result.{IfOk-weaker}
use Rattle.pm_general.proofs.GeneralClass.{unsampled_general, unsampled_nothing}
use Rattle.pm_general.proofs.general.GeneralMapClass.unsample_valid.Goals as goal

pub returns-then-size-eq0 : goal.returns-then-size-eq0
returns-then-size-eq0 c =
    unsampled_nothing c.args.size.now c.args.map.now c.args.residue.now c.of.result c.if-size-eq0.true c.edges-edges.ensures.valid c.requires.size c.requires.valid (c.of.ensures ∙ c.in_ok-vec.ensures.items)

pub returns : goal.returns
returns c =
    IfOk-weaker c.unsample_through.result _ _ (unsampled_general c.args.size.now c.args.map.now c.args.residue.now (let some = c.if-size-eq0.false in omega (arith, some)) c.requires.size c.requires.valid) c.unsample_through.ensures
