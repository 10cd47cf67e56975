use Rattle.std.proofs.Common.{refl}
use Rattle.pm_trees.specs.declared.letters.TheConstants.{LEAF}
use Rattle.pm_brackets.proofs.Reading.{first_on_listed}
use Rattle.pm_trees.proofs.FourLetters.{leaf_is_other}
use Rattle.pm_trees.proofs.read.read_tree.Goals as goal

pub returns-in-Some : goal.returns-in-Some
returns-in-Some c = record { answer = first_on_listed _ _ LEAF _ leaf_is_other refl (rw c.in-Some.is at c.in_ok-place.ensures) }
