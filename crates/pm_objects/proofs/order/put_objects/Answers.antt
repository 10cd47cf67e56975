use Rattle.std.proofs.Common.{◌==◌, refl, arith}
use Rattle.std.specs.Prelude.{slice_index}
use Rattle.pm_objects.proofs.ObjectPlaces.{put_none, put_step, put_whole}
use Rattle.pm_objects.proofs.order.put_objects.Goals as goal

pub arities-init : goal.arities-init
arities-init c = put_none c.args.arities.now c.args.arity c.args.list.now c.args.objects.now

pub arities-preserved : goal.arities-preserved
arities-preserved c =
    rw (c.chosen.ensures, c.from-next.ensures)
    (put_step c.args.arities.now c.args.arity c.args.list.now c.args.objects.now c.arities.objects c.arities.next c.arities.place (slice_index c.args.arities.now c.arities.place == c.args.arity)
    c.arities.invariant c.arities-test.true (let long = c.arities.auto.objects in let less = c.arities-test.true in let many = c.requires.as_long in omega (arith, long, less, many)) refl)

pub returns-then-next-list-clause-here : goal.returns-then-next-list-clause-here
returns-then-next-list-clause-here c = λ place inside e.
    c.arities.invariant.here place (put_whole c.args.arities.now c.args.arity c.args.list.now c.args.objects.now c.arities.objects c.arities.next c.arities.place c.arities.invariant c.requires.many (omega arith) place inside e) e
