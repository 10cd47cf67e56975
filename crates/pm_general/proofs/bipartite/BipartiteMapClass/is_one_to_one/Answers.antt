use Rattle.pm_general.proofs.BipartiteClass.{one_bipartite_answer, some_bipartite_answer, bipartite_kept_by_renumbering, bipartite_most_edges}
use Rattle.pm_general.proofs.bipartite.BipartiteMapClass.is_one_to_one.Goals as goal

pub returns-clause-one_answer : goal.returns-clause-one_answer
returns-clause-one_answer c = one_bipartite_answer c.is_one_to_one.ensures.one_answer

pub returns-clause-some_answer : goal.returns-clause-some_answer
returns-clause-some_answer c = some_bipartite_answer c.is_one_to_one.ensures.some_answer

pub returns-clause-kept : goal.returns-clause-kept
returns-clause-kept c pairs is = bipartite_kept_by_renumbering pairs

pub returns-clause-most_edges : goal.returns-clause-most_edges
returns-clause-most_edges c = bipartite_most_edges c.is_one_to_one.ensures.most_edges
