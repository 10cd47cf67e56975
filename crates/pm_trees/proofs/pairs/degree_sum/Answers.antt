use Rattle.std.proofs.Common.{arith}
use Rattle.pm_trees.proofs.PairRules.{summed_start, summed_next, summed_end}
use Rattle.pm_trees.proofs.pairs.degree_sum.Goals as goal

pub pairs-init : goal.pairs-init
pairs-init c = summed_start _

pub overflow_add-sum : goal.overflow_add-sum
overflow_add-sum c =
    let h = summed_next _ _ _ c.from.result c.from-in-pairs.result c.pairs-test.true c.requires c.from.ensures c.from-in-pairs.ensures (let e = c.from-in-pairs.ensures in omega arith) c.pairs.invariant in
    omega (arith, h.fits)

pub pairs-preserved : goal.pairs-preserved
pairs-preserved c =
    (summed_next _ _ _ c.from.result c.from-in-pairs.result c.pairs-test.true c.requires c.from.ensures c.from-in-pairs.ensures (let e = c.from-in-pairs.ensures in omega arith) c.pairs.invariant).next

pub returns : goal.returns
returns c = summed_end _ _ c.pairs.i (omega arith) c.pairs.invariant
