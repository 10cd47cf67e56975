use Rattle.std.proofs.Common.{eqb-true, eq-eqb}
use Rattle.pm_brackets.proofs.Least.{noted_from_test}
use Rattle.pm_tri.proofs.nodes.with_node.Goals as goal

pub returns : goal.returns
returns c = noted_from_test _ _ _ _ _ (λ e. eqb-true _ _ e, λ e. eq-eqb _ _ e) c.noted.ensures
