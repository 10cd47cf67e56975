use Rattle.std.proofs.Common.{ℕ, List, take, inr, refl, ap, ◌∙◌, subst, arith}
use Rattle.rand_core.specs.Stream.{Stream}
use Rattle.pm_io.specs.Bytes.{added}
use Rattle.pm_io.specs.Faults.{FaultsRose}
use Rattle.pm_draw.specs.Drawn.{generator_of, words_of, drawn}
use Rattle.pm_cli.specs.declared.refusal.Stop.TheVariants.{Write, Memory}
use Rattle.pm_cli.specs.Drawing.{IsRecord, IsDrawnRecord, Draws}
use Rattle.pm_cli.specs.Records.{HasFirstRecords}
use Rattle.pm_cli.specs.steps.Streams.{IsWritingRecords}
use Rattle.pm_cli.proofs.Records.{none_written, first_written, one_more_written, next_in_prefix, first_in_prefix}
use Rattle.pm_cli.proofs.Refusals.{stopped_as}
use Rattle.pm_cli.proofs.WholeDrawings.{none_drawn, one_more_drawn}
use Rattle.pm_cli.proofs.draw.draw.Goals as goal

pub returns-in_err-record : goal.returns-in_err-record
returns-in_err-record g c = stopped_as (IsWritingRecords (Draws (g.C.MapClass.choice_limits c.args.size.now) (g.C.MapClass.samples c.args.size.now) c.args.seed c.args.count)
    (HasFirstRecords (IsDrawnRecord (g.C.MapClass.choice_limits c.args.size.now) (g.C.MapClass.samples c.args.size.now) c.args.seed) c.args.count)
    (g.O.Sink.holds c.args.out.now) (g.O.Sink.holds c.records.out) (g.O.Sink.faults c.args.out.now) (g.O.Sink.faults c.records.out)) Memory (
      inr (first_written (IsDrawnRecord (g.C.MapClass.choice_limits c.args.size.now) (g.C.MapClass.samples c.args.size.now) c.args.seed) (c.records_go_on.ensures c.args.seed) c.records._place
          c.args.count (g.O.Sink.holds c.args.out.now) (g.O.Sink.holds c.records.out) (omega arith) c.records.invariant.so_far),
      c.records.invariant.calm,
    ) c.from_residual-in_err-record.result c.from_residual-in_err-record.ensures.1

pub records-init : goal.records-init
records-init g c = record {
  so_far = none_written (IsDrawnRecord (g.C.MapClass.choice_limits c.args.size.now) (g.C.MapClass.samples c.args.size.now) c.args.seed) (g.O.Sink.holds c.args.out.now);
  left = none_drawn (g.C.MapClass.choice_limits c.args.size.now) (words_of (generator_of c.args.seed)) (words_of c.rng_of-rng.result) (ap words_of c.rng_of-rng.ensures);
  calm = refl;
}

pub returns-in_err-write : goal.returns-in_err-write
returns-in_err-write g c =
    let is_record = subst (λ (bounds : List ℕ). IsRecord (g.C.MapClass.samples c.args.size.now) (drawn bounds (words_of c.records.rng)).0 c.in_ok-record.record.items)
    c.in_ok-bounds.ensures c.in_ok-record.ensures.record in
    let prefix = c.in_err-write.ensures.prefix in
    stopped_as (IsWritingRecords (Draws (g.C.MapClass.choice_limits c.args.size.now) (g.C.MapClass.samples c.args.size.now) c.args.seed c.args.count)
    (HasFirstRecords (IsDrawnRecord (g.C.MapClass.choice_limits c.args.size.now) (g.C.MapClass.samples c.args.size.now) c.args.seed) c.args.count)
    (g.O.Sink.holds c.args.out.now) (g.O.Sink.holds c.write.new.self) (g.O.Sink.faults c.args.out.now) (g.O.Sink.faults c.write.new.self)) Write (
      next_in_prefix (IsDrawnRecord (g.C.MapClass.choice_limits c.args.size.now) (g.C.MapClass.samples c.args.size.now) c.args.seed) (c.records_go_on.ensures c.args.seed) c.records._place
          c.args.count prefix.0 (g.O.Sink.holds c.args.out.now) (g.O.Sink.holds c.records.out) (g.O.Sink.holds c.write.new.self) c.in_ok-record.record.items
          c.records-test.true c.records.invariant.so_far
          (subst (λ (stream : Stream). IsRecord (g.C.MapClass.samples c.args.size.now) (drawn (g.C.MapClass.choice_limits c.args.size.now) stream).0 c.in_ok-record.record.items) c.records.invariant.left is_record)
          (prefix.1 ∙ ap (λ (t : List ℕ). added (g.O.Sink.holds c.records.out) (take prefix.0 t)) c.deref.ensures.value),
      subst (λ (f : ℕ). FaultsRose f (g.O.Sink.faults c.write.new.self)) c.records.invariant.calm c.in_err-write.ensures.cause,
    ) c.from_residual-in_err-write.result c.from_residual-in_err-write.ensures.1

pub records-preserved : goal.records-preserved
records-preserved g c =
    let is_record = subst (λ (bounds : List ℕ). IsRecord (g.C.MapClass.samples c.args.size.now) (drawn bounds (words_of c.records.rng)).0 c.in_ok-record.record.items)
    c.in_ok-bounds.ensures c.in_ok-record.ensures.record in
    record {
      so_far = one_more_written (IsDrawnRecord (g.C.MapClass.choice_limits c.args.size.now) (g.C.MapClass.samples c.args.size.now) c.args.seed) c.records._place
          (g.O.Sink.holds c.args.out.now) (g.O.Sink.holds c.records.out) (g.O.Sink.holds c.write.new.self) c.in_ok-record.record.items c.records.invariant.so_far
          (subst (λ (stream : Stream). IsRecord (g.C.MapClass.samples c.args.size.now) (drawn (g.C.MapClass.choice_limits c.args.size.now) stream).0 c.in_ok-record.record.items) c.records.invariant.left is_record)
          (c.in_ok-write.ensures.whole ∙ ap (added (g.O.Sink.holds c.records.out)) c.deref.ensures.value);
      left = one_more_drawn (g.C.MapClass.choice_limits c.args.size.now) (words_of (generator_of c.args.seed)) (words_of c.records.rng) (words_of c.draw_record.new.rng) c.records._place
          c.records.invariant.left (c.in_ok-record.ensures.left ∙ ap (λ (bounds : List ℕ). (drawn bounds (words_of c.records.rng)).1) c.in_ok-bounds.ensures);
      calm = c.in_ok-write.ensures.calm ∙ c.records.invariant.calm;
    }

pub returns-in_err-flush : goal.returns-in_err-flush
returns-in_err-flush g c = stopped_as (IsWritingRecords (Draws (g.C.MapClass.choice_limits c.args.size.now) (g.C.MapClass.samples c.args.size.now) c.args.seed c.args.count)
    (HasFirstRecords (IsDrawnRecord (g.C.MapClass.choice_limits c.args.size.now) (g.C.MapClass.samples c.args.size.now) c.args.seed) c.args.count)
    (g.O.Sink.holds c.args.out.now) (g.O.Sink.holds c.flush.new.self) (g.O.Sink.faults c.args.out.now) (g.O.Sink.faults c.flush.new.self)) Write (
      first_in_prefix (IsDrawnRecord (g.C.MapClass.choice_limits c.args.size.now) (g.C.MapClass.samples c.args.size.now) c.args.seed) (c.records_go_on.ensures c.args.seed) c.records._place
          c.args.count (g.O.Sink.holds c.args.out.now) (g.O.Sink.holds c.records.out) (g.O.Sink.holds c.flush.new.self) (omega arith) c.records.invariant.so_far c.flush.ensures.stays,
      subst (λ (f : ℕ). FaultsRose f (g.O.Sink.faults c.flush.new.self)) c.records.invariant.calm c.in_err-flush.ensures.cause,
    ) c.from_residual-in_err-flush.result c.from_residual-in_err-flush.ensures.1
