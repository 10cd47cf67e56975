use Rattle.std.proofs.Common.{subst, sym}
use Rattle.pm_lists.specs.Valid.{AreBounds}
use Rattle.pm_euler.proofs.EulerianBounds.{eulerian_residues_are}
use Rattle.pm_euler.proofs.eulerian.EulerianMapClass.residue_bounds.Goals as goal

pub of-requires : goal.of-requires
of-requires c = subst AreBounds (sym c.in_ok-limits.ensures) (eulerian_residues_are c.args.size.now)
