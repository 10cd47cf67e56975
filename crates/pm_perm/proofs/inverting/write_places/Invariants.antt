use Rattle.pm_perm.proofs.PlacesWritten.{IsPlaced}
use Rattle.pm_perm.proofs.inverting.write_places.Given as goal

abbrev pub invariant-values : goal.invariant-values
invariant-values l = IsPlaced l.values l.places l.place
