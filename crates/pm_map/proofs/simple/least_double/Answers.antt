use Rattle.std.proofs.Common.{refl, arith}
use Rattle.pm_map.proofs.EndsLemmas.{neighbour_some, neighbour_none, neighbours_all}
use Rattle.pm_map.proofs.simple.least_double.Goals as goal
use Rattle.pm_map.proofs.simple.least_double.Goals.{then-before-here+then-before-here-2, else-before-here, else-before-here-via-then-before-here+else-before-here-2, else-before-here-via-else-before-here}

pub entries-preserved : goal.entries-preserved
entries-preserved c =
    elim c.if-before-here.branch [
      | then-before-here+then-before-here-2 w ↦ rw w.least-is
          (neighbour_some c.args.ends.now c.entries.place _ w.lesser.result w.min.result c.entries.least (omega arith) c.entries-test.true refl w.if-before-here.true w.if-before-here-2.true w.min.ensures w.lesser.ensures c.entries.invariant)
      | else-before-here w ↦ rw w.least-is
          (neighbour_none c.args.ends.now c.entries.place _ c.entries.least refl (λ near far. elim w.else-before-here.branch [
            | else-before-here-via-then-before-here+else-before-here-2 w' ↦ w'.if-before-here-2.false far
            | else-before-here-via-else-before-here w' ↦ w'.if-before-here.false near
          ]) c.entries.invariant)
    ]

pub returns : goal.returns
returns c = neighbours_all c.args.ends.now c.entries.place c.entries.least c.requires (omega arith) c.entries.invariant
