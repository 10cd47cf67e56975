use Rattle.pm_cli.proofs.OneAnswer.{has_one_answer}
use Rattle.pm_cli.proofs.SomeAnswer.{has_some_answer}
use Rattle.pm_cli.proofs.laws.words_and_bytes_have_one_answer.Goals as goal

pub returns-clause-one : goal.returns-clause-one
returns-clause-one c = has_one_answer c.each_class_has_laws.ensures

pub returns-clause-some : goal.returns-clause-some
returns-clause-some c = has_some_answer c.each_class_has_laws.ensures
