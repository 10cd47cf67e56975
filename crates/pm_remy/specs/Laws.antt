-- Laws of growths and of words: labelled trees and lists of choices belong together, and trees and their words.
use Rattle.std.specs.Prelude.{◌≡◌, ℕ, suc, Bool, List, length}
use Rattle.pm_perm.specs.Permutation.{IsPermutationList}
use Rattle.pm_remy.specs.Tree.{Tree, labels_of, shape_of, leaves}
use Rattle.pm_remy.specs.Growth.{grown, IsChoices, IsGrowth}
use Rattle.pm_remy.specs.Words.{IsShape, leaves_in}

-- A growth of n choices has the labels 0 to n, each once, and each tree that is labelled so is grown by one list.
pub record GrowthIsOneToOne : Type 0 where
  pub labelled : (choices : List ℕ) → IsChoices choices → IsPermutationList (labels_of (grown choices))
  pub sized : (choices : List ℕ) → IsChoices choices → leaves (grown choices) ≡ suc (length choices)
  pub grown_once : (t : Tree) → IsPermutationList (labels_of t) → (choices : List ℕ) × IsGrowth choices t

-- Each tree has a shape, and of each shape and as many labels as it has leaves there is one tree.
pub record WordsAreOneToOne : Type 0 where
  pub is_shape : (t : Tree) → IsShape (shape_of t)
  pub as_many : (t : Tree) → leaves t ≡ leaves_in (shape_of t)
  pub has_tree : (word : List Bool) (labels : List ℕ) → IsShape word → length labels ≡ leaves_in word → (t : Tree) × (shape_of t ≡ word) × (labels_of t ≡ labels)
  pub one_tree : (t u : Tree) → shape_of t ≡ shape_of u → labels_of t ≡ labels_of u → t ≡ u
