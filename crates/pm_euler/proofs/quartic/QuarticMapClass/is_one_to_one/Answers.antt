use Rattle.pm_euler.proofs.QuarticClass.{quartic_one_to_one, quartic_kept_by_renumbering, quartic_limits, quartic_most_edges}
use Rattle.pm_euler.proofs.QuarticMaps.{size_where_answered, one_quartic_answer, some_quartic_answer}
use Rattle.pm_euler.proofs.quartic.QuarticMapClass.is_one_to_one.Goals as goal

pub returns-clause-sized : goal.returns-clause-sized
returns-clause-sized c = size_where_answered

pub returns-clause-one_answer : goal.returns-clause-one_answer
returns-clause-one_answer c = one_quartic_answer

pub returns-clause-some_answer : goal.returns-clause-some_answer
returns-clause-some_answer c = some_quartic_answer

pub returns-clause-one_to_one : goal.returns-clause-one_to_one
returns-clause-one_to_one c = quartic_one_to_one

pub returns-clause-kept : goal.returns-clause-kept
returns-clause-kept c size is = quartic_kept_by_renumbering size

pub returns-clause-limits : goal.returns-clause-limits
returns-clause-limits c = quartic_limits

pub returns-clause-most_edges : goal.returns-clause-most_edges
returns-clause-most_edges c = quartic_most_edges
