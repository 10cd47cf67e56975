use Rattle.std.proofs.Common.{◌≡◌, take}
use Rattle.std.specs.List.{sum}
use Rattle.std.specs.Map.{values_of}
use Rattle.pm_cli.specs.Counting.{IsCensusRecord}
use Rattle.pm_cli.proofs.Records.{AreWritten}
use Rattle.pm_cli.proofs.census.write_census.Given as goal

abbrev pub invariant-maps : goal.invariant-maps
invariant-maps g l = record {
  so_far : AreWritten (IsCensusRecord l.found-inside.numbers.entries) l.place (g.O.Sink.holds l.fn.out) (g.O.Sink.holds l.out);
  summed : l.lists ≡ sum (take l.place (values_of l.found-inside.numbers.entries));
  calm : g.O.Sink.faults l.out ≡ g.O.Sink.faults l.fn.out;
}
