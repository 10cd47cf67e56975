use Rattle.pm_mapfile.proofs.NamingLemmas.{AreNamed}
use Rattle.pm_mapfile.proofs.naming.name_anew.Given as goal

abbrev pub invariant-darts : goal.invariant-darts
invariant-darts l = AreNamed l.names l.places.items l.sigma l.renamed.items l.name-index
