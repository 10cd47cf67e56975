use Rattle.std.proofs.Common.{◌≡◌, ◌-◌, ◌≤◌, ◌++◌, length, take}
use Rattle.std.specs.Prelude.{codes}
use Rattle.pm_lists.specs.Numbers.{spaced_numbers}
use Rattle.pm_mapfile.proofs.write.put_vertex.Given as goal

abbrev pub invariant-pieces : goal.invariant-pieces
invariant-pieces l = (l.start ≤ length l.vertex) × (l.text.items ≡ (l.fn.text.items ++ codes "v") ++ spaced_numbers (take l.start l.vertex))

abbrev pub decreases-pieces : goal.decreases-pieces
decreases-pieces l = length l.vertex - l.start
