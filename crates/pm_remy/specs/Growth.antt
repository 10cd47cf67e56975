-- The growth of labelled binary trees (Rémy 1985): one leaf and one fork at a time, by a list of bounded choices.
use Rattle.std.specs.Prelude.{◌≡◌, ℕ, zero, suc, ◌+◌, ◌*◌, ◌/◌, ◌%◌, ◌<◌, ◌==◌, Bool, false, List, [], ◌∷◌, ◌++◌, length, slice_index, if◌then◌else◌}
use Rattle.pm_remy.specs.Tree.{Tree, leaf, fork, name}

-- a fork of a tree and a new leaf, which stands on the right where the side is 0 and on the left elsewhere
unfoldable pub beside : ℕ → ℕ → Tree → Tree
beside side label t = if side == 0 then fork t (leaf label) else fork (leaf label) t

-- the tree in which the node of that name is replaced by a fork of it and a new leaf
unfoldable pub grafted : ℕ → ℕ → ℕ → Tree → Tree
grafted node side label (leaf m) =
    if name (leaf m) == node then beside side label (leaf m) else leaf m
grafted node side label (fork left right) =
    if name (fork left right) == node then beside side label (fork left right)
    else fork (grafted node side label left) (grafted node side label right)

-- the tree that the first so many choices grow: it begins as the leaf 0, and choice k, counted from 1, puts the new
-- leaf k beside the node that is named by half of the choice, on the side that is the choice's remainder
unfoldable pub grown_by : List ℕ → ℕ → Tree
grown_by choices zero = leaf 0
grown_by choices (suc k) =
    grafted (slice_index choices k / 2) (slice_index choices k % 2) (suc k) (grown_by choices k)

-- the tree that the choices grow
abbrev pub grown : List ℕ → Tree
grown choices = grown_by choices (length choices)

-- each choice is one of the names of the tree so far, with one of the two sides
abbrev pub IsChoices : List ℕ → Type 0
IsChoices choices = (k : ℕ) → k < length choices → slice_index choices k < 2 * (2 * k + 1)

-- the one list of choices that grows the tree
pub record IsGrowth (choices : List ℕ) (t : Tree) : Type 0 where
  pub valid : IsChoices choices
  pub grows : grown choices ≡ t
  pub only : (others : List ℕ) → IsChoices others → grown others ≡ t → others ≡ choices
