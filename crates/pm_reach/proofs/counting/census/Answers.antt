use Rattle.std.proofs.Common.{◌≤◌, length, subst, ◌∙◌, arith}
use Rattle.pm_reach.specs.declared.lists.TheConstants.{MOST_LISTS}
use Rattle.pm_reach.specs.Census.{product}
use Rattle.pm_reach.proofs.CountedLists.{IsCensus-few}
use Rattle.pm_reach.proofs.counting.census.Goals as goal

pub invariant_of-result : goal.invariant_of-result
invariant_of-result g c =
    let few : product (g.C.MapClass.choice_limits c.args.size.now) ≤ MOST_LISTS =
    subst (λ bounds. product bounds ≤ MOST_LISTS) (c.values.ensures.values ∙ c.in_ok-bounds.ensures) (c.has_few_lists.ensures.few c.if-not-has_few_lists.false) in
    let entries : length c.in_ok-numbers.numbers.entries ≤ MOST_LISTS =
    omega (arith, few, IsCensus-few (g.C.MapClass.choice_limits c.args.size.now) (g.C.MapClass.samples c.args.size.now) c.in_ok-numbers.numbers.entries c.in_ok-numbers.ensures) in
    entries
