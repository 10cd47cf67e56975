use Rattle.pm_open.proofs.WalkLoop.{IsSpelling}
use Rattle.pm_open.proofs.walking.word_along.Given as goal

abbrev pub invariant-walk : goal.invariant-walk
invariant-walk l = IsSpelling l.map l.distances l._place l.dart l.fates.items l.word.items
