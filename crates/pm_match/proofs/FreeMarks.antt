-- The free leaves of trees are two marks.
use Rattle.std.proofs.Common.{List, ℕ}
use Rattle.pm_brackets.specs.PlantedAt.{AreTwo}
use Rattle.pm_trees.specs.PlantedAt.{AreTwoMarks}
use Rattle.pm_trees.specs.Word.{contour}
use Rattle.pm_trees.proofs.Balance.{two_more_leaves}
use Rattle.pm_match.specs.Pair.{IsFree}
use Rattle.pm_match.specs.FreeLeaves.{AreFreeLeaves}
use Rattle.pm_match.proofs.Paired.{pairing_exists}
use Rattle.pm_match.proofs.PairTurns.{free_leaves_turned}

abbrev pub free_two : (places : List ℕ) (first second : ℕ) → AreFreeLeaves places first second → AreTwo (IsFree places)
free_two places first second free = record {
  earlier = first;
  later = second;
  in_order = free.in_order;
  earlier_is = free.first_is;
  later_is = free.second_is;
  no_third = free.no_third;
}

pub free_marks : AreTwoMarks IsFree
free_marks = record {
  two = λ word tree. let found = pairing_exists word (two_more_leaves word tree) in free_two (contour word) _ _ found.1.free;
  turned = free_leaves_turned;
}
