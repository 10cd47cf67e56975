-- A labelled tree as two words: its shape in preorder and its labels from left to right.
use Rattle.std.specs.Prelude.{◌≡◌, ℕ, suc, ◌<◌, ◌≤◌, Bool, true, false, List, [], ◌∷◌, ◌++◌, length, take, refl}
use Rattle.std.specs.Coded.{Coded, code_by, coded×, coded_ℕ, coded_bool, coded_list}
use Rattle.std.proofs.Common.{ap, ap₂, ◌∙◌, append_assoc, append-nil, sym}
use Rattle.pm_limits.specs.declared.TheConstants.{MAX_EDGES}
use Rattle.pm_perm.specs.Permutation.{IsPermutationList}
use Rattle.pm_remy.specs.Tree.{Tree, leaf, fork, labels_of, shape_of, leaves}

-- the number of forks in a word
abbrev pub forks_in : List Bool → ℕ
forks_in [] = 0
forks_in (true ∷ word) = suc (forks_in word)
forks_in (false ∷ word) = forks_in word

-- the number of leaves in a word
abbrev pub leaves_in : List Bool → ℕ
leaves_in [] = 0
leaves_in (true ∷ word) = leaves_in word
leaves_in (false ∷ word) = suc (leaves_in word)

-- the word of a tree in preorder: it has one leaf more than forks, and no proper prefix has more leaves than forks
pub record IsShape (word : List Bool) : Type 0 where
  pub sum : leaves_in word ≡ suc (forks_in word)
  pub prefixes : (k : ℕ) → k < length word → leaves_in (take k word) ≤ forks_in (take k word)

-- the first two trees as the sides of one fork
abbrev pub joined : List Tree → List Tree
joined [] = []
joined (left ∷ []) = left ∷ []
joined (left ∷ (right ∷ trees)) = fork left right ∷ trees

-- the trees, from left to right, whose shapes one after another are the word, with these labels
abbrev pub forest : List Bool → List ℕ → List Tree
forest [] labels = []
forest (true ∷ word) labels = joined (forest word labels)
forest (false ∷ word) [] = []
forest (false ∷ word) (label ∷ labels) = leaf label ∷ forest word labels

-- the first tree of a list
abbrev pub first_of : List Tree → Tree
first_of [] = leaf 0
first_of (t ∷ trees) = t

-- the tree with that shape and these labels from left to right
unfoldable pub tree_of : List Bool → List ℕ → Tree
tree_of word labels = first_of (forest word labels)

-- reading a tree's words gives the tree, whatever follows them
pub forest-words : (t : Tree) (word : List Bool) (labels : List ℕ) → forest (shape_of t ++ word) (labels_of t ++ labels) ≡ t ∷ forest word labels
forest-words (leaf m) word labels = refl
forest-words (fork left right) word labels =
    ap₂ (λ (w : List Bool) (ms : List ℕ). joined (forest w ms)) (append_assoc (shape_of left) (shape_of right) word) (append_assoc (labels_of left) (labels_of right) labels)
    ∙ (ap joined (forest-words left (shape_of right ++ word) (labels_of right ++ labels))
    ∙ ap (λ (trees : List Tree). joined (left ∷ trees)) (forest-words right word labels))

pub tree_of-words : (t : Tree) → tree_of (shape_of t) (labels_of t) ≡ t
unfolding tree_of
tree_of-words t =
    ap₂ (λ (w : List Bool) (ms : List ℕ). first_of (forest w ms)) (sym (append-nil (shape_of t))) (sym (append-nil (labels_of t)))
    ∙ ap first_of (forest-words t [] [])

-- a tree is told by its words
abbrev pub tree_code : Coded Tree
tree_code =
    code_by (List Bool × List ℕ) (coded× (coded_list coded_bool) (coded_list coded_ℕ)) (λ t. (shape_of t, labels_of t)) (λ words. tree_of words.0 words.1) tree_of-words

-- a tree whose labels are the numbers from 0 on, each once, and which is within the limit
pub record IsLabelTree (t : Tree) : Type 0 where
  pub once : IsPermutationList (labels_of t)
  pub few : leaves t ≤ suc MAX_EDGES

-- two words are those of a tree that is labelled so
pub record IsWritten (word : List Bool) (labels : List ℕ) : Type 0 where
  pub shape : shape_of (tree_of word labels) ≡ word
  pub labels_stand : labels_of (tree_of word labels) ≡ labels
  pub labelled : IsLabelTree (tree_of word labels)
