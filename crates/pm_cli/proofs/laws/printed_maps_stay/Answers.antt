use Rattle.pm_cli.proofs.ByWords.{printed_by_words}
use Rattle.pm_cli.proofs.PrintedAgain as again
use Rattle.pm_cli.proofs.laws.printed_maps_stay.Goals as goal

pub returns-clause-files : goal.returns-clause-files
returns-clause-files c = again.printed_maps_stay

pub returns-clause-words : goal.returns-clause-words
returns-clause-words c = printed_by_words
