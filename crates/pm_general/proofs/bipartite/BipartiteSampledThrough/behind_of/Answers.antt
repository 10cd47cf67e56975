use Rattle.std.proofs.lemmas.Result.{IfOk-weaker}
use Rattle.pm_general.proofs.BipartiteClass.{dual_is_imaged}
use Rattle.pm_general.proofs.bipartite.BipartiteSampledThrough.behind_of.Goals as goal

pub returns : goal.returns
returns c = IfOk-weaker c.dual.result _ _ (dual_is_imaged c.args.map.now) c.dual.ensures
