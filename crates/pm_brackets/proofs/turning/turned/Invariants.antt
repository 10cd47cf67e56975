-- The letters behind the start are turned so far, and then those before it. The level is no higher than so many letters.
use Rattle.std.proofs.Common.{◌+◌, ◌≤◌, length}
use Rattle.pm_brackets.proofs.LowTurns.{IsAfter, IsBefore}
use Rattle.pm_brackets.proofs.turning.turned.Given as goal

abbrev pub invariant-behind : goal.invariant-behind
invariant-behind l = IsAfter l.plant l.word l.start l.letters.items l.place l.above × (l.above ≤ l.place)

abbrev pub invariant-back : goal.invariant-back
invariant-back l = IsBefore l.plant l.word l.start l.letters.items l.place l.above × (l.above + l.place ≤ length l.word)
