-- The clauses are the laws of canonical maps of structures.
use Rattle.pm_map.proofs.UniqueCanonical.{form_is_rooted, form_is_unique, form_tells_structures}
use Rattle.pm_map.proofs.laws.canonical_form_is_unique.Goals as goal

pub returns-clause-rooted : goal.returns-clause-rooted
returns-clause-rooted c = form_is_rooted

pub returns-clause-unique : goal.returns-clause-unique
returns-clause-unique c = form_is_unique

pub returns-clause-tells : goal.returns-clause-tells
returns-clause-tells c = form_tells_structures
