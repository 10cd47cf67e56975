use Rattle.std.proofs.Common.{arith, rules}
use Rattle.std.proofs.lemmas.Fmt.{length-decimal-le}
use Rattle.pm_text.proofs.NumeralLemmas.{decimal_is_number}
use Rattle.pm_text.proofs.numbers.put_number.Goals as goal

pub write_digits-start-requires : goal.write_digits-start-requires
write_digits-start-requires c = search (rules, length-decimal-le 20)

pub returns-clause-read_again : goal.returns-clause-read_again
returns-clause-read_again c = decimal_is_number _ (omega arith)
