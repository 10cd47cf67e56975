use Rattle.pm_tri.proofs.Triangulations.{one_answer, size_where_answered, some_answer, triangulations_have_edges}
use Rattle.pm_tri.proofs.laws.triangulation_answer_is_unique.Goals as goal

pub returns : goal.returns
returns c = record { edges = triangulations_have_edges; sized = size_where_answered; one_answer = one_answer; some_answer = some_answer }
