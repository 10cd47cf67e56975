use Rattle.std.proofs.Common.{◌∙◌, sym, subst, arith}
use Rattle.pm_cli.proofs.Sizes.{one_number}
use Rattle.pm_cli.proofs.StoppingWords.{false_true}
use Rattle.pm_cli.proofs.class.number_size.Goals as goal

pub returns-else-admissible : goal.returns-else-admissible
returns-else-admissible g c size is e =
    let read = c.in_ok-size.ensures in
    let few = c.requires.few size is in
    let same = one_number _ c.in_ok-size.size size (omega (arith, read.0)) (omega arith) read.1 (c.as_str.ensures.value ∙ e) in
    false_true (c.if-admissible.ensures.1 (subst g.C.MapClass.is_size (sym same) is))
