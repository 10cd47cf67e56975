use Rattle.pm_open.proofs.SomeOpening.{each_map_opens}
use Rattle.pm_open.proofs.UniqueOpening.{one_opening}
use Rattle.pm_open.proofs.laws.each_map_opens_once.Goals as goal

pub returns-clause-exists : goal.returns-clause-exists
returns-clause-exists c = each_map_opens

pub returns-clause-one : goal.returns-clause-one
returns-clause-one c = one_opening
