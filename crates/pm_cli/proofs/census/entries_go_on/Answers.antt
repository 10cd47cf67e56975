use Rattle.pm_cli.proofs.CensusRecords.{census_goes_on}
use Rattle.pm_cli.proofs.census.entries_go_on.Goals as goal

pub returns : goal.returns
returns g c = census_goes_on c.args.found.now (g.C.MapClass.has c.args.size.now) (c.census_has_each_map_once.ensures c.args.size.now c.args.found.now c.requires.size c.requires.found)
