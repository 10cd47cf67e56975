use Rattle.std.proofs.Common.{◌≡◌, ◌-◌, ◌≤◌, ◌++◌, length, take}
use Rattle.pm_lists.specs.Numbers.{spaced_numbers}
use Rattle.pm_lists.proofs.put.put_line.Given as goal

abbrev pub invariant-pieces : goal.invariant-pieces
invariant-pieces l = (l.start ≤ length l.values) × (l.text.items ≡ (l.fn.text.items ++ l.tag) ++ spaced_numbers (take l.start l.values))

abbrev pub decreases-pieces : goal.decreases-pieces
decreases-pieces l = length l.values - l.start
