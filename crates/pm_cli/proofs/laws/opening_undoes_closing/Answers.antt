use Rattle.pm_cli.proofs.ByWords.{opened_by_words, closed_by_words}
use Rattle.pm_cli.proofs.OpenedAgain.{opened_again, closed_again}
use Rattle.pm_cli.proofs.laws.opening_undoes_closing.Goals as goal

pub returns-clause-opened : goal.returns-clause-opened
returns-clause-opened c = opened_again

pub returns-clause-closed : goal.returns-clause-closed
returns-clause-closed c = closed_again

pub returns-clause-opened_by_words : goal.returns-clause-opened_by_words
returns-clause-opened_by_words c = opened_by_words

pub returns-clause-closed_by_words : goal.returns-clause-closed_by_words
returns-clause-closed_by_words c = closed_by_words
