-- The leaves of a contour by their numbers.
use Rattle.std.proofs.Common.{◌≡◌, ℕ, ◌<◌, List, length, arith}
use Rattle.pm_trees.specs.declared.letters.TheConstants.{LEAF}
use Rattle.pm_brackets.specs.Word.{count}
use Rattle.pm_trees.specs.Leaves.{IsLeafAt}
use Rattle.pm_trees.specs.Word.{contour}
use Rattle.pm_brackets.proofs.LetterCounts as counted
use Rattle.pm_brackets.proofs.LetterTurns.{letter_few, letter_within, one_place}

pub plant_is_first : (word : List ℕ) (leaf : ℕ) → leaf ≡ 0 → IsLeafAt (contour word) leaf 0
plant_is_first word leaf none = counted.plant_is_first LEAF word leaf none

pub leaf_within : (xs : List ℕ) (number p : ℕ) → IsLeafAt xs number p → p < length xs
leaf_within xs number p h = letter_within LEAF (omega arith) xs number p h

pub leaf_few : (xs : List ℕ) (number p : ℕ) → IsLeafAt xs number p → number < count LEAF xs
leaf_few xs number p h = letter_few LEAF (omega arith) xs number p h

-- a number has one leaf
pub one_leaf : (xs : List ℕ) (number p q : ℕ) → IsLeafAt xs number p → IsLeafAt xs number q → p ≡ q
one_leaf xs number p q h i = one_place LEAF (omega arith) xs number p q h i
