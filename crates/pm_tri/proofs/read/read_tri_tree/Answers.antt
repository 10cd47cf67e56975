use Rattle.std.proofs.Common.{refl}
use Rattle.pm_tri.specs.declared.letters.TheConstants.{STEM}
use Rattle.pm_brackets.proofs.Reading.{first_on_listed}
use Rattle.pm_tri.proofs.StemLetters.{stem_is_other}
use Rattle.pm_tri.proofs.read.read_tri_tree.Goals as goal

pub returns-in-Some : goal.returns-in-Some
returns-in-Some c = record { answer = first_on_listed _ _ STEM _ stem_is_other refl (rw c.in-Some.is at c.in_ok-place.ensures) }
