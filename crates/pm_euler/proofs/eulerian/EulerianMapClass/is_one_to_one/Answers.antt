use Rattle.pm_euler.proofs.EulerianClass.{eulerian_one_to_one, eulerian_kept_by_renumbering, eulerian_limits, eulerian_most_edges}
use Rattle.pm_euler.proofs.EulerianMaps.{eulerian_where_answered, one_eulerian_answer, some_eulerian_answer}
use Rattle.pm_euler.proofs.eulerian.EulerianMapClass.is_one_to_one.Goals as goal

pub returns-clause-sized : goal.returns-clause-sized
returns-clause-sized c = eulerian_where_answered

pub returns-clause-one_answer : goal.returns-clause-one_answer
returns-clause-one_answer c = one_eulerian_answer

pub returns-clause-some_answer : goal.returns-clause-some_answer
returns-clause-some_answer c = some_eulerian_answer

pub returns-clause-one_to_one : goal.returns-clause-one_to_one
returns-clause-one_to_one c = eulerian_one_to_one

pub returns-clause-kept : goal.returns-clause-kept
returns-clause-kept c pairs is = eulerian_kept_by_renumbering pairs

pub returns-clause-limits : goal.returns-clause-limits
returns-clause-limits c = eulerian_limits

pub returns-clause-most_edges : goal.returns-clause-most_edges
returns-clause-most_edges c = eulerian_most_edges
