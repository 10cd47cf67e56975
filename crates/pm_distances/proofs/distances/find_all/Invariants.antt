use Rattle.std.proofs.Common.{◌-◌}
use Rattle.pm_map.specs.steps.Search.{work_left}
use Rattle.pm_distances.specs.steps.DistanceSearch.{IsFinding}
use Rattle.pm_distances.proofs.distances.find_all.Given as goal

abbrev pub invariant-search : goal.invariant-search
invariant-search l = IsFinding l.map l.found l.distances l.darts.items l.place

abbrev pub decreases-search : goal.decreases-search
decreases-search l = work_left l.found l.darts.items - l.place
