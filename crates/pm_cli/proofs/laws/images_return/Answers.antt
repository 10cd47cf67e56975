use Rattle.pm_cli.proofs.ByWords.{duals_by_words, medials_by_words, unmedials_by_words}
use Rattle.pm_cli.proofs.ImagesAgain.{duals_return, medials_return, unmedials_return}
use Rattle.pm_cli.proofs.laws.images_return.Goals as goal

pub returns-clause-duals : goal.returns-clause-duals
returns-clause-duals c = duals_return

pub returns-clause-medials : goal.returns-clause-medials
returns-clause-medials c = medials_return

pub returns-clause-unmedials : goal.returns-clause-unmedials
returns-clause-unmedials c = unmedials_return

pub returns-clause-duals_by_words : goal.returns-clause-duals_by_words
returns-clause-duals_by_words c = duals_by_words

pub returns-clause-medials_by_words : goal.returns-clause-medials_by_words
returns-clause-medials_by_words c = medials_by_words

pub returns-clause-unmedials_by_words : goal.returns-clause-unmedials_by_words
returns-clause-unmedials_by_words c = unmedials_by_words
