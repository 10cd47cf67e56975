use Rattle.pm_general.proofs.GeneralClass.{some_general_answer, general_one_to_one, general_limits, general_most_edges}
use Rattle.pm_general.proofs.general.GeneralMapClass.is_one_to_one.Goals as goal

pub returns-clause-some_answer : goal.returns-clause-some_answer
returns-clause-some_answer c = some_general_answer

pub returns-clause-one_to_one : goal.returns-clause-one_to_one
returns-clause-one_to_one c = general_one_to_one c.through_is_one_to_one.ensures

pub returns-clause-limits : goal.returns-clause-limits
returns-clause-limits c = general_limits c.is_one_to_one.ensures.limits

pub returns-clause-most_edges : goal.returns-clause-most_edges
returns-clause-most_edges c = general_most_edges
