use Rattle.pm_tri.proofs.TriBounds.{tri_bounds_are_limits}
use Rattle.pm_tri.proofs.laws.triangulation_bounds_are_limits.Goals as goal

pub returns : goal.returns
returns c = tri_bounds_are_limits
