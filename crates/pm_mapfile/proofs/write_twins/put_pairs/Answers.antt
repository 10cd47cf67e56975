use Rattle.std.proofs.Common.{arith}
use Rattle.pm_mapfile.proofs.TwinPrintLemmas.{first_pair, one_more_pair}
use Rattle.pm_mapfile.proofs.write_twins.put_pairs.Goals as goal
use Rattle.pm_mapfile.proofs.write_twins.put_pairs.Goals.{then-place-gt0+in_ok-push, else-place-gt0}

pub pairs-preserved : goal.pairs-preserved
pairs-preserved c =
    elim c.if-place-gt0.branch [
      | then-place-gt0+in_ok-push w ↦
          one_more_pair c.args.pairs.now c.pairs.place c.args.text.now.items c.pairs.text.items c.if-place-gt0.text.items c.put_pair.new.text.items (omega (arith, c.pairs-test.true)) (omega (arith, w.if-place-gt0.true)) c.pairs.invariant
          (rw w.text-is w.in_ok-push.ensures.items) c.in_ok-put_pair.ensures
      | else-place-gt0 w ↦
          first_pair c.args.pairs.now c.pairs.place c.args.text.now.items c.if-place-gt0.text.items c.put_pair.new.text.items (omega (arith, c.pairs-test.true)) (λ some. omega (arith, w.if-place-gt0.false, some)) (rw w.text-is c.pairs.invariant)
          c.in_ok-put_pair.ensures
    ]
