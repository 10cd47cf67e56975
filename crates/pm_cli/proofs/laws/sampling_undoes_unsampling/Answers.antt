use Rattle.pm_cli.proofs.ByWords.{sampled_by_words}
use Rattle.pm_cli.proofs.SampledAgain.{sampled_again}
use Rattle.pm_cli.proofs.laws.sampling_undoes_unsampling.Goals as goal

pub returns-clause-files : goal.returns-clause-files
returns-clause-files c = sampled_again c.each_class_has_laws.ensures

pub returns-clause-words : goal.returns-clause-words
returns-clause-words c = sampled_by_words c.each_class_has_laws.ensures
