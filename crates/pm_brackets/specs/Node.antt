-- Nodes of a word: a node is named by the place of its `(`, and the root node by 0, the place of the plant.
use Rattle.std.specs.Prelude.{◌≡◌, ◌⊎◌, ℕ, zero, suc, Bool, ◌==◌, ◌&&◌, List, [], ◌∷◌, length, drop, slice_index, if◌then◌else◌}
use Rattle.pm_perm.specs.Count.{count_below}
use Rattle.pm_brackets.specs.declared.letters.TheConstants.{OPEN, CLOSE}

-- a place that names a node
abbrev pub IsNode : List ℕ → ℕ → Type 0
IsNode places node = (node ≡ 0) ⊎ (slice_index places node ≡ OPEN)

-- the brackets before a place that are still open at it, the last one first
abbrev pub open_before : List ℕ → ℕ → List ℕ
open_before places zero = []
open_before places (suc p) =
    if slice_index places p == OPEN then p ∷ open_before places p
    else (if slice_index places p == CLOSE then drop 1 (open_before places p) else open_before places p)

-- the node that a place belongs to: the last bracket that is still open there, or the root node
abbrev pub node_at : List ℕ → ℕ → ℕ
node_at places p = slice_index (open_before places p) 0

-- a letter that passes the test stands at the place, and the place belongs to the node
abbrev pub is_own : (ℕ → Bool) → List ℕ → ℕ → ℕ → Bool
is_own passes places node p = passes (slice_index places p) && (node_at places p == node)

-- how many places of the node have a letter that passes the test
abbrev pub own : (ℕ → Bool) → List ℕ → ℕ → ℕ
own passes places node = count_below (is_own passes places node) (length places)
