use Rattle.pm_map.specs.Rotation.{structure_of}
use Rattle.pm_map.proofs.SimpleDarts.{simple_if_none}
use Rattle.pm_map.proofs.rooted_map.RootedMap.is_simple.Goals as goal

pub returns : goal.returns
returns c = simple_if_none (structure_of c.args.self.now) c.in_ok-found.found c.is_none.result c.in_ok-found.ensures c.is_none.ensures
