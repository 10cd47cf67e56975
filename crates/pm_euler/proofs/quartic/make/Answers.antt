use Rattle.std.proofs.Common.{◌<◌, suc, All, length, ap, subst, sym, ◌∙◌, arith}
use Rattle.pm_remy.specs.Tree.{leaves}
use Rattle.pm_euler.proofs.QuarticMade.{prefix_parts, ranks_cut}
use Rattle.pm_euler.proofs.quartic.make.Goals as goal

pub grow-requires-clause-valid : goal.grow-requires-clause-valid
grow-requires-clause-valid c = (prefix_parts c.args.size c.args.prefix.now c.requires.valid).growth

pub plant-requires-clause-forks : goal.plant-requires-clause-forks
plant-requires-clause-forks c =
    let p = prefix_parts c.args.size c.args.prefix.now c.requires.valid in
    ap leaves c.in_ok-grown.ensures ∙ p.forks ∙ ap suc (sym (ap length (ranks_cut c.args.size c.args.prefix.now) ∙ p.ranks_long))

pub plant-requires-clause-few : goal.plant-requires-clause-few
plant-requires-clause-few c =
    let p = prefix_parts c.args.size c.args.prefix.now c.requires.valid in
    let long = ap length (ranks_cut c.args.size c.args.prefix.now) ∙ p.ranks_long in
    let few = c.requires.size.few in
    omega (arith, long, few)

pub plant-requires-clause-ranks : goal.plant-requires-clause-ranks
plant-requires-clause-ranks c =
    subst (All (λ rank. rank < 3)) (sym (ranks_cut c.args.size c.args.prefix.now)) (prefix_parts c.args.size c.args.prefix.now c.requires.valid).ranks_low
