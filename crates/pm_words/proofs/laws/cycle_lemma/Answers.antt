use Rattle.pm_words.proofs.Cycle.{good_starts_exist}
use Rattle.pm_words.proofs.laws.cycle_lemma.Goals as goal

pub returns : goal.returns
returns c = good_starts_exist
