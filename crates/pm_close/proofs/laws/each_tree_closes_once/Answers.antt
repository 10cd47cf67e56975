use Rattle.pm_close.proofs.PlaneMap.{rooted_closure}
use Rattle.pm_close.proofs.RootedClosure.{one_closure}
use Rattle.pm_close.proofs.SomeClosure.{each_tree_closes}
use Rattle.pm_close.proofs.laws.each_tree_closes_once.Goals as goal

pub returns : goal.returns
returns c = record { one = one_closure; exists = each_tree_closes; rooted = rooted_closure }
