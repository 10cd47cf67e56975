use Rattle.std.proofs.Common.{◌≡◌, ◌+◌, ◌*◌, ◌<◌, slice_index, subst, sym, arith}
use Rattle.pm_reach.specs.declared.lists.TheConstants.{MOST_LISTS}
use Rattle.pm_reach.specs.Census.{product}
use Rattle.pm_reach.specs.steps.Walking.{IsMultiplied}
use Rattle.pm_reach.proofs.Products.{IsMultiplied-more, IsMultiplied-below}
use Rattle.pm_reach.proofs.lists.has_few_lists.Goals as goal

pub returns-then-count-gt-MOST_LISTS-clause-many : goal.returns-then-count-gt-MOST_LISTS-clause-many
returns-then-count-gt-MOST_LISTS-clause-many c = λ _.
    let more = IsMultiplied-more c.args.bounds.now c.loop-bound.bound-index c.loop-bound.count c.loop-bound-test.true c.loop-bound.invariant.multiplied in
    let least = IsMultiplied-below c.args.bounds.now (c.loop-bound.bound-index + 1) (c.loop-bound.count * slice_index c.args.bounds.now c.loop-bound.bound-index) c.requires more in
    let above : MOST_LISTS < product c.args.bounds.now = omega (arith, least, c.saturating_mul-count.ensures, c.if-count-gt-MOST_LISTS.true) in
    above

pub loop-bound-preserved : goal.loop-bound-preserved
loop-bound-preserved c =
    let exact : c.saturating_mul-count.result ≡ c.loop-bound.count * slice_index c.args.bounds.now c.loop-bound.bound-index =
    omega (arith, c.saturating_mul-count.ensures, c.if-count-gt-MOST_LISTS.false) in
    record {
      few = c.if-count-gt-MOST_LISTS.false;
      multiplied = subst (IsMultiplied c.args.bounds.now (c.loop-bound.bound-index + 1)) (sym exact)
          (IsMultiplied-more c.args.bounds.now c.loop-bound.bound-index c.loop-bound.count c.loop-bound-test.true c.loop-bound.invariant.multiplied);
    }
