use Rattle.pm_objects.proofs.ObjectPlaces.{ArePut}
use Rattle.pm_objects.proofs.order.put_objects.Given as goal

abbrev pub invariant-arities : goal.invariant-arities
invariant-arities l = ArePut l.arities l.arity l.list l.fn.objects l.objects l.next l.place
