use Rattle.pm_words.specs.Plane.{trees_of, subtrees_of}
use Rattle.pm_words.proofs.PlaneWords.{IsWord-word_of, IsGood-word_of, word_of-injective, word_of-subtrees_of}
use Rattle.pm_words.proofs.plane.trees_are_words.Goals as goal

pub returns : goal.returns
returns c = record {
  is_word = IsWord-word_of;
  is_good = IsGood-word_of;
  only = word_of-injective;
  has_tree = λ word is_word good. (subtrees_of (trees_of word), word_of-subtrees_of word is_word good);
}
