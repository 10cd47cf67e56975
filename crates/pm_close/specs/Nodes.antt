-- The nodes of a tree are the vertices of its closure.
use Rattle.std.specs.Prelude.{◌≡◌, ◌≢◌, ℕ, ◌<◌, ◌⊎◌, List, length, drop, map, slice_index}
use Rattle.pm_brackets.specs.declared.letters.TheConstants.{CLOSE}
use Rattle.pm_brackets.specs.Word.{IsBracketPair, IsMatched, between}
use Rattle.pm_trees.specs.Word.{IsInOrder, contour}
use Rattle.pm_trees.specs.Node.{IsNode, entries}
use Rattle.pm_map.specs.Structure.{Structure}
use Rattle.pm_map.specs.Meeting.{IsVertexFrom}
use Rattle.pm_close.specs.Closure.{IsClosure}

-- the place of a node's edge to its parent: its `)`, and the plant for the root node
abbrev pub IsHead : List ℕ → ℕ → ℕ → Type 0
IsHead places node head = ((node ≡ 0) × (head ≡ 0)) ⊎ IsBracketPair places node head

-- A place is an entry of a node where it is behind the node's place, the brackets strictly between match, and it is no
-- `)`. So a child is an entry by its `(`.
pub record IsEntry (places : List ℕ) (node p : ℕ) : Type 0 where
  pub after : node < p
  pub within : p < length places
  pub matched : IsMatched (between places node p)
  pub no_close : slice_index places p ≢ CLOSE

-- the list has the entries of a node, each once and in their order
pub record AreEntries (places : List ℕ) (node : ℕ) (found : List ℕ) : Type 0 where
  pub each : (k : ℕ) → k < length found → IsEntry places node (slice_index found k)
  pub rising : (j k : ℕ) → j < k → k < length found → slice_index found j < slice_index found k
  pub all : (p : ℕ) → IsEntry places node p → (k : ℕ) × (k < length found) × (slice_index found k ≡ p)

-- The vertex of the closure that is this node: from the node's head through its entries in order and back. The letters of
-- the entries are those of the node's level. So the node's degree is the size of the vertex, and its buds are those in it.
pub record IsNodeVertex (places : List ℕ) (closure : Structure) (node : ℕ) (vertex : List ℕ) : Type 0 where
  pub head : ℕ
  pub is_head : IsHead places node head
  pub is_vertex : IsVertexFrom closure head vertex
  pub entries_are : AreEntries places node (drop 1 vertex)
  pub letters_are : map (slice_index places) (drop 1 vertex) ≡ entries places node

-- each node of a tree is a vertex of its closure
abbrev pub NodesAreVertices : Type 0
NodesAreVertices = (word : List ℕ) (closure : Structure) → IsInOrder word → IsClosure (contour word) closure
    → (node : ℕ) → IsNode (contour word) node → (vertex : List ℕ) × IsNodeVertex (contour word) closure node vertex
