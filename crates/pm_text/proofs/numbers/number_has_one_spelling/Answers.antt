use Rattle.pm_text.proofs.NumeralLemmas.{has_one_spelling}
use Rattle.pm_text.proofs.numbers.number_has_one_spelling.Goals as goal

pub returns : goal.returns
returns c = has_one_spelling
