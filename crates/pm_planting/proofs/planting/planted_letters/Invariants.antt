use Rattle.std.proofs.Common.{◌+◌, ◌-◌, ◌*◌, length, vec_len}
use Rattle.pm_planting.proofs.PlaneSteps.{IsBegun}
use Rattle.pm_planting.proofs.planting.planted_letters.Given as goal

abbrev pub invariant-letters : goal.invariant-letters
invariant-letters l = IsBegun l.kinds l.letters.items l.ahead.items l.next

abbrev pub decreases-letters : goal.decreases-letters
decreases-letters l = 65 * (length l.kinds - l.next) + vec_len l.ahead
