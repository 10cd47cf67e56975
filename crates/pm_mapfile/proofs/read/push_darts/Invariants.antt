use Rattle.std.proofs.Common.{length, ◌-◌, ◌*◌}
use Rattle.pm_mapfile.specs.steps.Lines.{IsReadingDarts}
use Rattle.pm_mapfile.proofs.read.push_darts.Given as goal

abbrev pub invariant-darts : goal.invariant-darts
invariant-darts l = IsReadingDarts (2 * l.edges) l.bytes l.place l.fn.darts.items l.darts.items

abbrev pub decreases-darts : goal.decreases-darts
decreases-darts l = length l.bytes - l.place
