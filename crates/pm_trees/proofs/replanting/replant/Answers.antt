use Rattle.pm_trees.proofs.Replants.{alike_from}
use Rattle.pm_trees.proofs.replanting.replant.Goals as goal

pub invariant_of-result : goal.invariant_of-result
invariant_of-result c =
    (alike_from _ _ c.args.leaf c.leaf_place-start.result _ c.letters.ensures.valid c.letters.ensures.letters c.leaf_place-start.ensures c.in_ok-letters.ensures).blossoming

pub returns-clause-alike : goal.returns-clause-alike
returns-clause-alike c =
    alike_from _ _ c.args.leaf c.leaf_place-start.result _ c.letters.ensures.valid c.letters.ensures.letters c.leaf_place-start.ensures c.in_ok-letters.ensures
