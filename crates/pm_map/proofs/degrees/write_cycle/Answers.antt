use Rattle.std.proofs.Common.{◌≡◌, ◌<◌, length, arith}
use Rattle.pm_map.proofs.CycleSizes.{IsWriting-begins, IsWriting-below, IsWriting-step, IsSized-more}
use Rattle.pm_map.specs.steps.Sizes.{step_around}
use Rattle.pm_map.proofs.degrees.write_cycle.Goals as goal

pub write-init : goal.write-init
write-init c = IsWriting-begins (step_around c.args.sigma.now c.args.around) c.args.start c.args.size c.args.out.now c.requires.sized

pub write-preserved : goal.write-preserved
write-preserved c =
    let long : length c.write.out ≡ length c.args.sigma.now = omega arith in
    rw c.step-next.ensures (IsWriting-step (length c.args.sigma.now) (step_around c.args.sigma.now c.args.around) c.args.start c.args.size c.write.out c.write._step c.write.next c.requires.permutes c.requires.within long
    c.requires.size c.write.invariant)

pub returns : goal.returns
returns c =
    let some : 0 < c.args.size = c.requires.size.some in
    IsSized-more (step_around c.args.sigma.now c.args.around) c.write.out c.args.start c.write.invariant.sized (c.write.invariant.here (omega arith))

pub step-next-requires-clause-within : goal.step-next-requires-clause-within
step-next-requires-clause-within c =
    IsWriting-below (length c.args.sigma.now) (step_around c.args.sigma.now c.args.around) c.args.start c.args.size c.write.out c.write._step c.write.next c.requires.permutes c.requires.within c.write.invariant

pub bounds-out-next : goal.bounds-out-next
bounds-out-next c =
    let below : c.write.next < length c.args.sigma.now =
    IsWriting-below (length c.args.sigma.now) (step_around c.args.sigma.now c.args.around) c.args.start c.args.size c.write.out c.write._step c.write.next c.requires.permutes c.requires.within c.write.invariant in
    omega arith
