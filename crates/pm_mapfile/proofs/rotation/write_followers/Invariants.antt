use Rattle.std.proofs.Common.{map}
use Rattle.pm_mapfile.specs.steps.Rotation.{told_dart, turned_lines, AreFollowers}
use Rattle.pm_mapfile.proofs.RotationLemmas.{AreWritingLines}
use Rattle.pm_mapfile.proofs.rotation.write_followers.Given as goal

abbrev pub invariant-lines : goal.invariant-lines
invariant-lines l = AreWritingLines l.sizes l.darts (map told_dart l.followers) l.size-index l.start

abbrev pub invariant-places : goal.invariant-places
invariant-places l = AreFollowers l.darts (turned_lines l.sizes l.darts) l.place (map told_dart l.followers)
