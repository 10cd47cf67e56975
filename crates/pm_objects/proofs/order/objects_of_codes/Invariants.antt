use Rattle.std.proofs.Common.{ℕ, List}
use Rattle.pm_objects.specs.Codes.{AreObjectsOf}
use Rattle.pm_objects.proofs.ObjectsPut.{ArePutBefore}
use Rattle.pm_objects.proofs.order.objects_of_codes.Given as goal

abbrev pub invariant-each_range : goal.invariant-each_range
invariant-each_range l = (objects : List ℕ) → AreObjectsOf l.ranges l.arities l.codes objects → ArePutBefore l.ranges l.arities objects l.objects.items l.first l.range-index
