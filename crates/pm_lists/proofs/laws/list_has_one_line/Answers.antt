use Rattle.pm_lists.proofs.SpellingLemmas.{has_one_line}
use Rattle.pm_lists.proofs.laws.list_has_one_line.Goals as goal

pub returns : goal.returns
returns c = has_one_line
