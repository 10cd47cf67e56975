use Rattle.std.proofs.Common.{◌≡◌, ◌≤◌, take}
use Rattle.pm_objects.specs.Objects.{objects_of}
use Rattle.pm_objects.proofs.codes.keep_objects.Given as goal

abbrev pub invariant-objects : goal.invariant-objects
invariant-objects l = record { within : l.many ≤ l.object-index; kept : take l.many l.kept ≡ objects_of l.arities l.arity (take l.object-index l.objects) }
