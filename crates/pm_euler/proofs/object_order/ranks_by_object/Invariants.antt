use Rattle.pm_euler.proofs.ObjectPlaces.{AreRanked}
use Rattle.pm_euler.proofs.object_order.ranks_by_object.Given as goal

abbrev pub invariant-kinds : goal.invariant-kinds
invariant-kinds l = AreRanked l.nodes l.kinds l.objects l.ranks.items l.place
