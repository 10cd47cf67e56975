-- The clauses are the laws of canonical maps.
use Rattle.pm_map.proofs.UniqueCanonical.{canonical_map_is_rooted, canonical_map_is_unique, canonical_maps_tell}
use Rattle.pm_map.proofs.laws.canonical_is_unique.Goals as goal

pub returns-clause-rooted : goal.returns-clause-rooted
returns-clause-rooted c = canonical_map_is_rooted

pub returns-clause-unique : goal.returns-clause-unique
returns-clause-unique c = canonical_map_is_unique

pub returns-clause-tells : goal.returns-clause-tells
returns-clause-tells c = canonical_maps_tell
