-- The state before a place of each turn.
use Rattle.std.proofs.Common.{length}
use Rattle.pm_trees.specs.Word.{contour}
use Rattle.pm_match.proofs.Turns.{IsFirstTurn}
use Rattle.pm_match.proofs.Completing.{IsSecondTurn}
use Rattle.pm_match.proofs.pairing.match_letters.Given as goal

abbrev pub invariant-first : goal.invariant-first
invariant-first l = IsFirstTurn (contour l.letters) l.place l.pairs.items l.waiting.items

abbrev pub invariant-second : goal.invariant-second
invariant-second l = IsSecondTurn (contour l.letters) (length l.initial.waiting.items) l.place l.pairs.items l.waiting.items l.inner l.free.items
