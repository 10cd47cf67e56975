use Rattle.std.proofs.Common.{List, ℕ, subst}
use Rattle.pm_trees.specs.Word.{contour}
use Rattle.pm_close.specs.Closure.{IsClosed}
use Rattle.pm_close.proofs.PlaneMap.{rooted_closure}
use Rattle.pm_close.proofs.closing.close_balanced.Goals as goal

pub from_rooted_rotation-requires : goal.from_rooted_rotation-requires
from_rooted_rotation-requires c =
    rooted_closure c.args.tree.now _ c.letters-letters.ensures.valid c.requires
    (subst (λ (word : List ℕ). IsClosed (contour word) (record { sigma = c.in_ok-sigma.sigma.items; root = 0 })) c.letters-letters.ensures.letters c.in_ok-sigma.ensures)
