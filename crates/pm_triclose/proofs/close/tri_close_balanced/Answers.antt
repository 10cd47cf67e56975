use Rattle.std.proofs.Common.{sym, subst}
use Rattle.pm_triclose.specs.Closing.{ClosesTo}
use Rattle.pm_triclose.proofs.Closings.{closes_to}
use Rattle.pm_triclose.proofs.TreeClosures.{whole_rooted}
use Rattle.pm_triclose.proofs.close.tri_close_balanced.Goals as goal

pub from_rooted_rotation-requires : goal.from_rooted_rotation-requires
from_rooted_rotation-requires c =
    whole_rooted c.args.tree.now (record { sigma = c.in_ok-sigma.sigma.items; root = 0 }) c.letters-letters.ensures.valid c.requires c.in_ok-sigma.ensures

pub returns : goal.returns
returns c =
    subst (ClosesTo c.args.tree.now) (sym c.from_rooted_rotation.ensures)
    (closes_to c.args.tree.now c.in_ok-sigma.sigma.items c.letters-letters.ensures.valid c.requires c.in_ok-sigma.ensures)
