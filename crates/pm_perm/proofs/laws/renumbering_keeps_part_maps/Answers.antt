use Rattle.pm_perm.proofs.PartMaps.{renumbering-law}
use Rattle.pm_perm.proofs.laws.renumbering_keeps_part_maps.Goals as goal

pub returns : goal.returns
returns c = renumbering-law
