use Rattle.pm_cli.proofs.ClassLaws.{are_samplers}
use Rattle.pm_cli.proofs.class.each_class_has_laws.Goals as goal

pub returns : goal.returns
returns c = are_samplers c.law.ensures c.law-2.ensures c.law-3.ensures c.law-4.ensures
