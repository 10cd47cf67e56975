-- Binary trees with labelled leaves, the names of their nodes, and their words in preorder.
use Rattle.std.specs.Prelude.{ℕ, ◌-◌, ◌*◌, min, max, Bool, true, false, List, [], ◌∷◌, ◌++◌, length}

-- a leaf with a label, or a fork of its left side and its right side
pub data Tree : Type 0 where
  leaf : ℕ → Tree
  fork : Tree → Tree → Tree

-- the labels from left to right
abbrev pub labels_of : Tree → List ℕ
labels_of (leaf m) = m ∷ []
labels_of (fork left right) = labels_of left ++ labels_of right

-- the number of leaves
abbrev pub leaves : Tree → ℕ
leaves t = length (labels_of t)

-- the nodes in preorder, true for a fork and false for a leaf
abbrev pub shape_of : Tree → List Bool
shape_of (leaf m) = false ∷ []
shape_of (fork left right) = true ∷ (shape_of left ++ shape_of right)

-- the least label
abbrev pub least : Tree → ℕ
least (leaf m) = m
least (fork left right) = min (least left) (least right)

-- The name of a tree's root node: 2m for a leaf with label m, and 2g-1 for a fork, where g is the greater of the least
-- labels of its two sides.
abbrev pub name : Tree → ℕ
name (leaf m) = 2 * m
name (fork left right) = 2 * max (least left) (least right) - 1

-- the names of all nodes, in preorder
abbrev pub names : Tree → List ℕ
names (leaf m) = name (leaf m) ∷ []
names (fork left right) = name (fork left right) ∷ (names left ++ names right)
