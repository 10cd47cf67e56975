-- The choices of a tree, read by taking its greatest label away, again and again: a step of the proof that each tree has one list of choices.
use Rattle.std.specs.Prelude.{◌≡◌, ℕ, zero, suc, ◌+◌, ◌*◌, ◌/◌, ◌%◌, ◌<◌, ◌==◌, Bool, false, List, [], ◌∷◌, ◌++◌, length, slice_index, if◌then◌else◌}
use Rattle.pm_remy.specs.Tree.{Tree, leaf, fork, name}

-- whether a tree is the leaf with that label
abbrev pub is_leaf : ℕ → Tree → Bool
is_leaf label (leaf m) = m == label
is_leaf label (fork left right) = false

-- the tree without the leaf of that label: the other side takes the place of its fork
unfoldable pub pruned : ℕ → Tree → Tree
pruned label (leaf m) = leaf m
pruned label (fork left right) =
    if is_leaf label left then right
    else (if is_leaf label right then left else fork (pruned label left) (pruned label right))

-- the choice that puts the leaf of that label where it stands: twice the name of the other side of its fork, and one
-- more where the leaf stands on the left
unfoldable pub last_choice : ℕ → Tree → ℕ
last_choice label (leaf m) = 0
last_choice label (fork left right) =
    if is_leaf label left then 2 * name right + 1
    else (if is_leaf label right then 2 * name left else last_choice label left + last_choice label right)

-- so many choices, read from a tree by taking its greatest label away, again and again
unfoldable pub ungrown : ℕ → Tree → List ℕ
ungrown zero t = []
ungrown (suc k) t = ungrown k (pruned (suc k) t) ++ last_choice (suc k) t ∷ []
