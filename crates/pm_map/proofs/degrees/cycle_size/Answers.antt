use Rattle.std.proofs.Common.{◌≤◌, ◌+◌, ℕ, length, arith}
use Rattle.pm_map.proofs.CycleSizes.{IsAway, IsAway-one, IsAway-more, IsAway-short, IsAway-size, IsAway-below}
use Rattle.pm_map.specs.steps.Sizes.{step_around}
use Rattle.pm_map.proofs.degrees.cycle_size.Goals as goal

pub walk-init : goal.walk-init
walk-init c = rw c.step-next.ensures (IsAway-one (step_around c.args.sigma.now c.args.around) c.args.start)

pub walk-preserved : goal.walk-preserved
walk-preserved c = rw c.step-next-in-walk.ensures (IsAway-more (step_around c.args.sigma.now c.args.around) c.args.start c.walk.size c.walk.next c.walk.invariant c.walk-test.true)

pub walk-smaller : goal.walk-smaller
walk-smaller c =
    let f : ℕ → ℕ = step_around c.args.sigma.now c.args.around in
    let more : IsAway f c.args.start (c.walk.size + 1) (f c.walk.next) = IsAway-more f c.args.start c.walk.size c.walk.next c.walk.invariant c.walk-test.true in
    let short : c.walk.size + 1 ≤ length c.args.sigma.now = IsAway-short (length c.args.sigma.now) f c.args.start (c.walk.size + 1) (f c.walk.next) c.requires.permutes c.requires.within more in
    omega arith

pub returns : goal.returns
returns c = IsAway-size (step_around c.args.sigma.now c.args.around) c.args.start c.walk.size c.walk.next c.walk.invariant c.walk-test.false

pub step-next-requires-in-walk-clause-within : goal.step-next-requires-in-walk-clause-within
step-next-requires-in-walk-clause-within c =
    IsAway-below (length c.args.sigma.now) (step_around c.args.sigma.now c.args.around) c.args.start c.walk.size c.walk.next c.requires.permutes c.requires.within c.walk.invariant

pub overflow_add-size : goal.overflow_add-size
overflow_add-size c =
    let f : ℕ → ℕ = step_around c.args.sigma.now c.args.around in
    let more : IsAway f c.args.start (c.walk.size + 1) (f c.walk.next) = IsAway-more f c.args.start c.walk.size c.walk.next c.walk.invariant c.walk-test.true in
    let short : c.walk.size + 1 ≤ length c.args.sigma.now = IsAway-short (length c.args.sigma.now) f c.args.start (c.walk.size + 1) (f c.walk.next) c.requires.permutes c.requires.within more in
    omega arith
