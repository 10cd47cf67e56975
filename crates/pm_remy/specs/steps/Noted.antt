-- The choices that grow a tree, as its forks tell them. Of the two sides of a fork, the one with the greater least label
-- came later: its least label was put beside the node that was the root node of the other side then.
use Rattle.std.specs.Prelude.{◌≡◌, ℕ, suc, ◌-◌, ◌*◌, max, nat_lt, List, slice_index, if◌then◌else◌}
use Rattle.pm_remy.specs.Tree.{Tree, leaf, fork, least, name}

-- the name of the root node once the labels above a bound are taken away
unfoldable pub root_upto : ℕ → Tree → ℕ
root_upto bound (leaf m) = name (leaf m)
root_upto bound (fork left right) =
    if nat_lt bound (max (least left) (least right)) then
    (if nat_lt (least left) (least right) then root_upto bound left else root_upto bound right)
    else name (fork left right)

-- the choice of the later one of two sides: twice the node beside which its least label was put, and one more where it
-- stands on the left
unfoldable pub fork_choice : Tree → Tree → ℕ
fork_choice left right =
    if nat_lt (least left) (least right) then 2 * root_upto (least right) left else suc (2 * root_upto (least left) right)

-- the choice of each fork is noted at the label that came with it, less 1
abbrev pub AreNoted : (ℕ → ℕ) → Tree → Type 0
AreNoted choices (leaf m) = Unit {0}
AreNoted choices (fork left right) =
    (choices (max (least left) (least right) - 1) ≡ fork_choice left right) × AreNoted choices left × AreNoted choices right

-- a tree with this root node and this least label, whose choices are noted
pub record IsNotedTree (choices : List ℕ) (root least_label : ℕ) (t : Tree) : Type 0 where
  pub root_is : name t ≡ root
  pub least_is : least t ≡ least_label
  pub noted : AreNoted (slice_index choices) t
