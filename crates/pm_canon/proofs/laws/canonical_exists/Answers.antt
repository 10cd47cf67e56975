-- The clauses are the laws of canonical maps.
use Rattle.pm_canon.proofs.ExistenceLemmas.{canonical_form_exists, canonical_map_exists, meeting_list_exists}
use Rattle.pm_canon.proofs.laws.canonical_exists.Goals as goal

pub returns-clause-canonical : goal.returns-clause-canonical
returns-clause-canonical c = canonical_map_exists

pub returns-clause-met : goal.returns-clause-met
returns-clause-met c = meeting_list_exists

pub returns-clause-form : goal.returns-clause-form
returns-clause-form c = canonical_form_exists
