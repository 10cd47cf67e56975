-- Plane trees and their words: a tree is the list of its subtrees, and its word has, for each node in preorder, the
-- number of the node's children less one (R. P. Stanley, Enumerative Combinatorics 2, 1999, section 5.3).
use Rattle.std.specs.Prelude.{◌≡◌, ℕ, zero, suc, ◌<◌, ◌^◌, ℤ, pos, negsuc, List, [], ◌∷◌, ◌++◌, length}
use Rattle.pm_words.specs.Word.{IsWord, IsGood}

-- a list of plane trees, where a tree is the list of its subtrees: none, or a first tree and the trees after it
pub data Trees : Type 0 where
  none : Trees
  tree : Trees → Trees → Trees

-- how many trees there are
abbrev pub how_many : Trees → ℕ
how_many none = 0
how_many (tree subtrees others) = suc (how_many others)

-- the letter of a node with so many children
abbrev pub letter_of : ℕ → ℤ
letter_of zero = negsuc 0
letter_of (suc more) = pos more

-- the words of the trees, one after another
abbrev pub words_of : Trees → List ℤ
words_of none = []
words_of (tree subtrees others) = letter_of (how_many subtrees) ∷ (words_of subtrees ++ words_of others)

-- the word of the tree with these subtrees
abbrev pub word_of : Trees → List ℤ
word_of subtrees = letter_of (how_many subtrees) ∷ words_of subtrees

-- a word as which a tree is kept: good for 1, and of fewer than 2^32 letters
pub record IsTreeWord (word : List ℤ) : Type 0 where
  pub letters : IsWord word
  pub good : IsGood 1 word
  pub few : length word < 2 ^ 32

-- the children that a letter tells
abbrev pub children_of : ℤ → ℕ
children_of (pos more) = suc more
children_of (negsuc less) = 0

-- the first so many trees, and the trees after them
abbrev pub first_trees : ℕ → Trees → Trees
first_trees zero trees = none
first_trees (suc many) none = none
first_trees (suc many) (tree subtrees others) = tree subtrees (first_trees many others)

abbrev pub trees_after : ℕ → Trees → Trees
trees_after zero trees = trees
trees_after (suc many) none = none
trees_after (suc many) (tree subtrees others) = trees_after many others

-- the trees whose words these are
abbrev pub trees_of : List ℤ → Trees
trees_of [] = none
trees_of (letter ∷ later) = tree (first_trees (children_of letter) (trees_of later)) (trees_after (children_of letter) (trees_of later))

-- the subtrees of the first tree
abbrev pub subtrees_of : Trees → Trees
subtrees_of none = none
subtrees_of (tree subtrees others) = subtrees

-- the law that trees and good words for 1 go over into one another
pub record TreesAreWords : Type 0 where
  pub is_word : (subtrees : Trees) → IsWord (word_of subtrees)
  pub is_good : (subtrees : Trees) → IsGood 1 (word_of subtrees)
  pub only : (first second : Trees) → word_of first ≡ word_of second → first ≡ second
  pub has_tree : (word : List ℤ) → IsWord word → IsGood 1 word → (subtrees : Trees) × (word_of subtrees ≡ word)
