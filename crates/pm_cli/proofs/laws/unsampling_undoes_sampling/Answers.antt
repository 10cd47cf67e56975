use Rattle.pm_cli.proofs.ByWords.{lists_by_words}
use Rattle.pm_cli.proofs.SampleFiles.{sampled_lists_return}
use Rattle.pm_cli.proofs.laws.unsampling_undoes_sampling.Goals as goal

pub returns-clause-files : goal.returns-clause-files
returns-clause-files c = sampled_lists_return c.each_class_has_laws.ensures

pub returns-clause-words : goal.returns-clause-words
returns-clause-words c = lists_by_words c.each_class_has_laws.ensures
