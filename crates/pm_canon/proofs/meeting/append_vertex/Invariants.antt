use Rattle.std.proofs.Common.{◌-◌, length, vec_len}
use Rattle.pm_map.specs.Rotation.{structure_of}
use Rattle.pm_canon.proofs.WalkLemmas.{IsWalking}
use Rattle.pm_canon.proofs.meeting.append_vertex.Given as goal

abbrev pub invariant-walk : goal.invariant-walk
invariant-walk l = IsWalking (structure_of (record { sigma = l.sigma; root = l.root })) l.fn.darts.items l.start l.marks l.darts.items l.dart

abbrev pub decreases-walk : goal.decreases-walk
decreases-walk l = length l.sigma - vec_len l.darts
