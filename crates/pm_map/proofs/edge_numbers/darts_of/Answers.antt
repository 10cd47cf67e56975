use Rattle.std.proofs.Common.{arith}
use Rattle.pm_map.proofs.EdgeNumbering.{numbered_few, numbered_first, numbered_second}
use Rattle.pm_map.proofs.edge_numbers.darts_of.Goals as goal
use Rattle.pm_map.proofs.edge_numbers.darts_of.Goals.{then-place-twin+in_ok-push, else-place-twin+in_ok-push-2}

pub overflow_mul-edges : goal.overflow_mul-edges
overflow_mul-edges c = omega (arith, numbered_few _ _ _ _ c.loop-place.invariant)

pub overflow_add-edges : goal.overflow_add-edges
overflow_add-edges c = omega (arith, numbered_few _ _ _ _ c.loop-place.invariant)

pub loop-place-preserved : goal.loop-place-preserved
loop-place-preserved c = elim c.if-place-twin.branch [
  | then-place-twin+in_ok-push w ↦
      rw (w.darts-is, w.edges-is, w.in_ok-push.ensures.items) (numbered_first _ _ _ _ c.loop-place.invariant w.if-place-twin.true)
  | else-place-twin+in_ok-push-2 w ↦
      rw (w.darts-is, w.edges-is, w.in_ok-push-2.ensures.items)
      (numbered_second _ _ _ _ _ _ c.requires.twinning c.loop-place-test.true c.loop-place.invariant w.if-place-twin.false w.index-first.ensures)
]
