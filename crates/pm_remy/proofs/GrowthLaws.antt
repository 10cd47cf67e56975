-- Each labelled tree is grown by one list of choices, and each shape with labels is that of one tree.
use Rattle.std.proofs.Common.{◌≡◌, ℕ, suc, List, length, sym}
use Rattle.pm_remy.specs.Tree.{shape_of, leaves}
use Rattle.pm_remy.specs.Growth.{grown, IsChoices}
use Rattle.pm_remy.specs.steps.Ungrown.{ungrown}
use Rattle.pm_remy.specs.Words.{forks_in, tree_of}
use Rattle.pm_remy.specs.Laws.{GrowthIsOneToOne, WordsAreOneToOne}
use Rattle.pm_remy.proofs.Grown.{counted-grown}
use Rattle.pm_remy.proofs.Once.{counted-leaves}
use Rattle.pm_remy.proofs.Reading.{forks-shape, leaves-shape, shape-tree, whole-tree_of, same_tree}
use Rattle.pm_remy.proofs.Ungrown.{growth-ungrown, labels-grown}

-- a growth has a leaf more than choices
pub growth_leaves : (choices : List ℕ) → IsChoices choices → leaves (grown choices) ≡ suc (length choices)
growth_leaves choices valid = counted-leaves (suc (length choices)) (grown choices) (counted-grown choices valid)

pub growth_one_to_one : GrowthIsOneToOne
growth_one_to_one = record {
  labelled = labels-grown;
  sized = growth_leaves;
  grown_once = λ t once. (ungrown (forks_in (shape_of t)) t, growth-ungrown (forks_in (shape_of t)) t (sym (forks-shape t)) once);
}

pub words_one_to_one : WordsAreOneToOne
words_one_to_one = record {
  is_shape = shape-tree;
  as_many = λ t. sym (leaves-shape t);
  has_tree = λ word labels shape many. let whole = whole-tree_of word labels shape many in (tree_of word labels, whole.shape, whole.labels_stand);
  one_tree = same_tree;
}
