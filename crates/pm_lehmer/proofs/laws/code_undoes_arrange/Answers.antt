use Rattle.pm_lehmer.proofs.Arranged.{has_arrangement, IsArrangementOf-unique}
use Rattle.pm_lehmer.proofs.laws.code_undoes_arrange.Goals as goal

pub returns : goal.returns
returns c = record {
  has_arrangement = has_arrangement;
  only = λ code arrangement arranged. record { only = λ other is. IsArrangementOf-unique code other arrangement is arranged };
  undoes = λ code arrangement arranged. arranged.has_code;
}
