use Rattle.pm_map.specs.Rotation.{structure_of}
use Rattle.pm_map.specs.steps.Search.{IsSearch, work_left}
use Rattle.pm_map.proofs.reaching.mark_reached.Given as goal

abbrev pub invariant-search : goal.invariant-search
invariant-search l = IsSearch (structure_of (record { sigma = l.sigma; root = l.root })) l.marks l.stack.items l.faces

abbrev pub decreases-search : goal.decreases-search
decreases-search l = work_left l.marks l.stack.items
