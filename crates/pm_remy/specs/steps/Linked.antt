-- A labelled tree in two lists by the names of its nodes. Place 0 holds the name of the root node; of the fork named f,
-- place f holds the name of its left side and place f+1 that of its right side. The second list has the place of each
-- name. The lists stand here for their entries, `slice_index`.
use Rattle.std.specs.Prelude.{◌≡◌, ℕ, suc, ◌*◌, ◌%◌, ◌<◌, ◌≤◌, List, length, slice_index}
use Rattle.pm_perm.specs.Permutation.{IsPermutationList}
use Rattle.pm_remy.specs.Tree.{Tree, leaf, fork, name, labels_of, leaves}

-- the node hangs at the place
pub record IsHung (links places : ℕ → ℕ) (place node : ℕ) : Type 0 where
  pub down : links place ≡ node
  pub up : places node ≡ place

-- the two sides of each fork hang at its places
abbrev pub IsLinked : (ℕ → ℕ) → (ℕ → ℕ) → Tree → Type 0
IsLinked links places (leaf m) = Unit {0}
IsLinked links places (fork left right) =
    IsHung links places (name (fork left right)) (name left) × IsHung links places (suc (name (fork left right))) (name right)
    × IsLinked links places left × IsLinked links places right

-- the whole tree hangs at place 0
pub record IsRooted (links places : ℕ → ℕ) (t : Tree) : Type 0 where
  pub root : IsHung links places 0 (name t)
  pub within : IsLinked links places t

-- two lists hold a tree whose labels are the numbers from 0 on, each once, and have the room for its nodes
pub record IsTreeIn (links places : List ℕ) (t : Tree) : Type 0 where
  pub rooted : IsRooted (slice_index links) (slice_index places) t
  pub once : IsPermutationList (labels_of t)
  pub links_room : 2 * leaves t ≤ suc (length links)
  pub places_room : 2 * leaves t ≤ suc (length places)

-- a list is the places of such a tree: beside some links of the same length, it holds the tree
pub record ArePlaces (places : List ℕ) (t : Tree) : Type 0 where
  pub links : List ℕ
  pub long : length links ≡ length places
  pub held : IsTreeIn links places t

-- a list is the places of such a tree with so many leaves
abbrev pub HavePlaces : List ℕ → ℕ → Type 0
HavePlaces places size = (t : Tree) × (ArePlaces places t × (leaves t ≡ size))

-- A list holds a tree from a number on: a leaf is twice its label, and a fork an odd number, at which and behind which
-- the numbers of its two sides stand.
abbrev pub IsTied : (ℕ → ℕ) → ℕ → ℕ → Tree → Type 0
IsTied links bound node (leaf m) = node ≡ 2 * m
IsTied links bound node (fork left right) =
    (node % 2 ≡ 1) × (suc node < bound) × IsTied links bound (links node) left × IsTied links bound (links (suc node)) right

-- a list holds a tree whose labels are the numbers from 0 on, each once, from its first entry on
pub record IsHeld (links : List ℕ) (t : Tree) : Type 0 where
  pub tied : IsTied (slice_index links) (length links) (slice_index links 0) t
  pub once : IsPermutationList (labels_of t)
  pub room : 2 * leaves t ≤ suc (length links)
