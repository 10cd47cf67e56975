use Rattle.std.proofs.Common.{ℕ, List, ap, ◌∙◌, arith}
use Rattle.std.proofs.lemmas.Result.{IfOk-weaker}
use Rattle.pm_class.proofs.UnnamedLemmas.{sampled_is_unnamed}
use Rattle.pm_general.proofs.GeneralClass.{sampled_general, sampled_nothing}
use Rattle.pm_general.proofs.general.GeneralMapClass.sample_unnamed.Goals as goal

pub returns-then-size-eq0 : goal.returns-then-size-eq0
returns-then-size-eq0 c =
    sampled_is_unnamed _ _ _ _ c.args.choices.now c.from_rooted_rotation-map.result c.of-residue.result
    (sampled_nothing c.args.size.now c.args.choices.now (record { map = c.from_rooted_rotation-map.result; residue = c.of-residue.result }) c.if-size-eq0.true c.requires.valid
    (c.from_rooted_rotation-map.ensures ∙ ap (λ (xs : List ℕ). record { sigma = xs; root = 0 }) c.new.ensures.items) (c.of-residue.ensures ∙ c.in_ok-vec.ensures.items))

pub returns : goal.returns
returns c = IfOk-weaker c.sample_unnamed_through.result _ _ (sampled_general c.args.size.now c.args.choices.now (let some = c.if-size-eq0.false in omega (arith, some))) c.sample_unnamed_through.ensures
