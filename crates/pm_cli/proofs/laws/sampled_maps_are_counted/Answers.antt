use Rattle.pm_cli.proofs.ByWords.{counted_by_words}
use Rattle.pm_cli.proofs.SampleFiles as files
use Rattle.pm_cli.proofs.laws.sampled_maps_are_counted.Goals as goal

pub returns-clause-files : goal.returns-clause-files
returns-clause-files c = files.sampled_maps_are_counted c.each_class_has_laws.ensures

pub returns-clause-words : goal.returns-clause-words
returns-clause-words c = counted_by_words c.each_class_has_laws.ensures
