use Rattle.std.proofs.Common.{◌<◌, length, arith, rules}
use Rattle.pm_map.specs.steps.Sizes.{step_around}
use Rattle.pm_map.proofs.CycleSizes.{IsSized-none, IsSized-nonzero}
use Rattle.pm_map.proofs.degrees.cycle_sizes.Goals as goal
use Rattle.pm_map.proofs.degrees.cycle_sizes.Goals.{then-out-start-eq0, else-out-start-eq0}

pub each-init : goal.each-init
each-init c = IsSized-none (step_around c.args.sigma.now c.args.around) c.fill.new.self (λ d h. search rules)

pub each-preserved : goal.each-preserved
each-preserved c = elim c.if-out-start-eq0.branch [
  | then-out-start-eq0 w ↦ rw w.out-is w.write_cycle.ensures
  | else-out-start-eq0 w ↦ rw w.out-is (IsSized-nonzero (step_around c.args.sigma.now c.args.around) c.each.out c.each.start c.each.invariant (let within : c.each.start < length c.each.out = omega arith in within) w.if-out-start-eq0.false)
]
