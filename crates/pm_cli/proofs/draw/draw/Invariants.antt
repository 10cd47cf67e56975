use Rattle.std.proofs.Common.{◌≡◌}
use Rattle.pm_draw.specs.Drawn.{generator_of, words_of}
use Rattle.pm_cli.specs.Drawing.{left_after, IsDrawnRecord}
use Rattle.pm_cli.proofs.Records.{AreWritten}
use Rattle.pm_cli.proofs.draw.draw.Given as goal

abbrev pub invariant-records : goal.invariant-records
invariant-records g l = record {
  so_far : AreWritten (IsDrawnRecord (g.C.MapClass.choice_limits l.size) (g.C.MapClass.samples l.size) l.seed) l._place (g.O.Sink.holds l.fn.out) (g.O.Sink.holds l.out);
  left : words_of l.rng ≡ left_after (g.C.MapClass.choice_limits l.size) (words_of (generator_of l.seed)) l._place;
  calm : g.O.Sink.faults l.out ≡ g.O.Sink.faults l.fn.out;
}
