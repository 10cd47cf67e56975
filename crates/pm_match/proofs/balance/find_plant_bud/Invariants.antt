-- The leaves that are left after the letters from here on, no more than those letters.
use Rattle.std.proofs.Common.{◌+◌, ◌≤◌, length}
use Rattle.pm_match.proofs.Backwards.{IsReadBack}
use Rattle.pm_match.proofs.balance.find_plant_bud.Given as goal

abbrev pub invariant-back : goal.invariant-back
invariant-back l = IsReadBack l.letters l.index l.left × (l.left + l.index ≤ length l.letters)
