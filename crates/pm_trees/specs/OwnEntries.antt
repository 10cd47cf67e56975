-- Both ways to say which letters a node has: its entries, and the places that belong to it.
use Rattle.std.specs.Prelude.{◌≡◌, ℕ, ◌+◌, Bool, false, ◌==◌, ◌&&◌, List, count_by, if◌then◌else◌}
use Rattle.pm_brackets.specs.declared.letters.TheConstants.{CLOSE}
use Rattle.pm_brackets.specs.Node.{own}
use Rattle.pm_trees.specs.declared.letters.TheConstants.{LEAF}
use Rattle.pm_trees.specs.Node.{IsNode, entries}
use Rattle.pm_trees.specs.Word.{IsInOrder, contour}

-- Of each kind of letters but `)` a node owns as many as it has entries, and the plant is one more of the root node.
abbrev pub EntriesAreOwn : Type 0
EntriesAreOwn = (passes : ℕ → Bool) (word : List ℕ) (node : ℕ) → passes CLOSE ≡ false → IsInOrder word → IsNode (contour word) node
    → own passes (contour word) node ≡ count_by passes (entries (contour word) node) + (if (node == 0) && passes LEAF then 1 else 0)
