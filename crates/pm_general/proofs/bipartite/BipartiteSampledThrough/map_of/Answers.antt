use Rattle.std.proofs.lemmas.Result.{IfOk-weaker}
use Rattle.pm_general.proofs.BipartiteClass.{dual_is_imaged}
use Rattle.pm_general.proofs.DualsOfMaps.{dual_back}
use Rattle.pm_general.proofs.bipartite.BipartiteSampledThrough.map_of.Goals as goal

pub returns : goal.returns
returns c = IfOk-weaker c.dual.result _ _ (λ other of. dual_is_imaged other c.args.behind.now (dual_back c.args.behind.now other c.edges-edges.ensures.valid.structure of)) c.dual.ensures
