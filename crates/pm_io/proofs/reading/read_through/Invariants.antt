-- What was read so far is a prefix of what was left, and no fault has come.
use Rattle.std.proofs.Common.{◌≡◌, ◌+◌, ◌-◌, ◌≤◌, ◌<◌, length, IfSome, vec_len}
use Rattle.pm_io.specs.Bytes.{without}
use Rattle.pm_io.proofs.Turns.{IsPrefix}
use Rattle.pm_io.proofs.reading.read_through.Given as goal

abbrev pub invariant-turns : goal.invariant-turns
invariant-turns g l = record {
  some : 0 < length l.chunk;
  within : vec_len l.bytes ≤ l.limit;
  prefix : IfSome (g.S.Source.left l.initial.src) (IsPrefix l.bytes.items (vec_len l.bytes));
  rest : g.S.Source.left l.src ≡ without (vec_len l.bytes) (g.S.Source.left l.initial.src);
  calm : g.S.Source.faults l.src ≡ g.S.Source.faults l.initial.src;
}

abbrev pub decreases-turns : goal.decreases-turns
decreases-turns g l = l.limit + 1 - vec_len l.bytes
