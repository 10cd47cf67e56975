use Rattle.std.proofs.Common.{ap, arith, length, subst, sym}
use Rattle.pm_trees.specs.Degrees.{AreListed}
use Rattle.pm_trees.proofs.Listing.{listed_few, table_answer}
use Rattle.pm_trees.proofs.profile.Profile.of_counts.Goals as goal

pub of_pairs-requires : goal.of_pairs-requires
of_pairs-requires c =
    let few = listed_few c.args.counts.now c.in_ok-pairs.pairs.items c.in_ok-pairs.ensures in
    let same = ap length c.deref.ensures.value in
    omega (arith, few, same, c.requires)

pub returns : goal.returns
returns c = table_answer c.args.counts.now c.deref.result.now c.of_pairs.result (subst (AreListed c.args.counts.now) (sym c.deref.ensures.value) c.in_ok-pairs.ensures) c.of_pairs.ensures
