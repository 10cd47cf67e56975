-- So many buds wait after the letters read, and the last two record lows of them are known.
use Rattle.pm_match.proofs.RecordLows.{IsSunk}
use Rattle.pm_match.proofs.lows.last_two_lows.Given as goal

abbrev pub invariant-letters : goal.invariant-letters
invariant-letters l = IsSunk l.letters l.index l.waiting l.first l.second
