use Rattle.std.proofs.Common.{subst, sym, ap, ◌∙◌, arith}
use Rattle.pm_trees.specs.Pairs.{IsProfile}
use Rattle.pm_euler.specs.Objects.{nodes_of_profile}
use Rattle.pm_euler.proofs.ObjectLemmas.{halves_few, nodes_within, nodes_counted}
use Rattle.pm_euler.proofs.objects.nodes_of.Goals as goal

pub overflow_add-nodes : goal.overflow_add-nodes
overflow_add-nodes c =
    let within = nodes_within c.pairs-pair-items.result.now c.loop-pair.pair-index (subst IsProfile (sym c.pairs-pair-items.ensures.pairs) c.pairs-pair-items.ensures.valid) c.loop-pair-test.true in
    omega (arith, within)

pub returns-clause-nodes : goal.returns-clause-nodes
returns-clause-nodes c = nodes_counted c.pairs-pair-items.result.now c.loop-pair.pair-index c.loop-pair.nodes c.loop-pair-test.false c.loop-pair.invariant ∙ ap nodes_of_profile c.pairs-pair-items.ensures.pairs

pub returns-clause-few : goal.returns-clause-few
returns-clause-few c =
    let counted = nodes_counted c.pairs-pair-items.result.now c.loop-pair.pair-index c.loop-pair.nodes c.loop-pair-test.false c.loop-pair.invariant ∙ ap nodes_of_profile c.pairs-pair-items.ensures.pairs in
    omega (arith, counted, halves_few c.args.profile.now c.pairs-pair-items.ensures.valid)
