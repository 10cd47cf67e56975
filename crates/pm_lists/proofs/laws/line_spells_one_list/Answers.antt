use Rattle.pm_lists.proofs.SpellingLemmas.{spells_one_list}
use Rattle.pm_lists.proofs.laws.line_spells_one_list.Goals as goal

pub returns : goal.returns
returns c = spells_one_list
