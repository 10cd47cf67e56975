use Rattle.pm_planting.proofs.KindLaws.{halves_few, kinds_blossoming}
use Rattle.pm_planting.proofs.planting.plant_plane.Goals as goal

pub of_word-requires : goal.of_word-requires
of_word-requires c = kinds_blossoming c.args.kinds.now c.in_ok-letters.letters.items c.in_ok-letters.ensures (halves_few c.args.kinds.now c.requires.each) c.requires.few
