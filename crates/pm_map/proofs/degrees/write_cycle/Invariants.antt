use Rattle.pm_map.proofs.CycleSizes.{IsWriting}
use Rattle.pm_map.specs.steps.Sizes.{step_around}
use Rattle.pm_map.proofs.degrees.write_cycle.Given as goal

abbrev pub invariant-write : goal.invariant-write
invariant-write l = IsWriting (step_around l.sigma l.around) l.start l.size l.out l._step l.next
