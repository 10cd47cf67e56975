use Rattle.std.proofs.Common.{length, suc}
use Rattle.pm_tri.specs.StemTree.{contour}
use Rattle.pm_triclose.proofs.ClosingState.{IsClosing, IsClosingSide}
use Rattle.pm_triclose.proofs.closing.closed_rotation.Given as goal

abbrev pub invariant-side : goal.invariant-side
invariant-side l = IsClosingSide (contour l.letters) (suc l.letter-index) l.sigma.items l.brackets.items l.stems.items l.last

abbrev pub decreases-side : goal.decreases-side
decreases-side l = length l.stems.items

abbrev pub invariant-letters : goal.invariant-letters
invariant-letters l = IsClosing (contour l.letters) (suc l.letter-index) l.sigma.items l.brackets.items l.stems.items l.last
