use Rattle.std.proofs.Common.{rules}
use Rattle.pm_perm.proofs.PlacesWritten.{placed-inverse, inverse-permutes}
use Rattle.pm_perm.proofs.inverting.write_places.Goals as goal

pub returns-clause-inverse : goal.returns-clause-inverse
returns-clause-inverse c = placed-inverse _ _ _ c.requires.permutation (search rules) c.values.invariant

pub returns-clause-still : goal.returns-clause-still
returns-clause-still c = inverse-permutes _ _ c.requires.permutation (placed-inverse _ _ _ c.requires.permutation (search rules) c.values.invariant)
