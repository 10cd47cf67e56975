use Rattle.std.proofs.Common.{refl}
use Rattle.pm_lehmer.proofs.Arranged.{code_of-is_code, IsArrangementOf-unique}
use Rattle.pm_lehmer.proofs.laws.arrange_undoes_code.Goals as goal

pub returns : goal.returns
returns c = record {
  is_code = code_of-is_code;
  undoes = λ entries permutation. record { is_permutation = permutation; has_code = refl };
  only = λ entries permutation. record { only = λ other is. IsArrangementOf-unique _ other entries is (record { is_permutation = permutation; has_code = refl }) };
}
