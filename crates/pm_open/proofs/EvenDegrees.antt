-- Structures whose vertices have even degrees within the limit.
use Rattle.pm_trees.specs.Node.{IsDegree}
use Rattle.pm_map.specs.Structure.{Structure}
use Rattle.pm_distances.proofs.EachDegree.{EachDegree}

-- each vertex has an even degree within the limit
abbrev pub HasEvenDegrees : Structure → Type 0
HasEvenDegrees s = EachDegree IsDegree s
