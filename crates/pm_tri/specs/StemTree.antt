-- Stem trees (Poulalhon and Schaeffer 2006): plane trees, planted at a stem, whose nodes have two stems each, the plant counted.
-- A word has the letters `s` for a stem and `(` and `)` for an edge to a child.
use Rattle.std.specs.Prelude.{◌≡◌, ℕ, suc, ◌-◌, ◌*◌, ◌/◌, ◌≤◌, Bool, ◌==◌, List, [], ◌∷◌, length}
use Rattle.pm_limits.specs.declared.TheConstants.{MAX_EDGES}
use Rattle.pm_brackets.specs.declared.letters.TheConstants.{OPEN}
use Rattle.pm_brackets.specs.Node.{is_own, own}
pub use Rattle.pm_brackets.specs.Node.{IsNode, node_at, open_before}
use Rattle.pm_brackets.specs.Word.{IsFaultOf, IsWordOf, count}
use Rattle.pm_tri.specs.declared.letters.TheConstants.{STEM}

-- the plant, and then the letters of the word; a list of places, to be read cyclically
abbrev pub contour : List ℕ → List ℕ
contour word = STEM ∷ word

-- the text of a word is in order: the three letters, and matched brackets
abbrev pub IsInOrder : List ℕ → Type 0
IsInOrder word = IsWordOf (STEM ∷ []) word

-- what can be wrong with the text of a word at a place of its contour
abbrev pub IsFault : List ℕ → ℕ → Type 0
IsFault places place = IsFaultOf (STEM ∷ []) places place

-- a stem, and one that stands at the place and belongs to the node
abbrev pub is_stem : ℕ → Bool
is_stem x = x == STEM

abbrev pub is_stem_of : List ℕ → ℕ → ℕ → Bool
is_stem_of places node p = is_own is_stem places node p

-- the stems of a node, the plant counted
abbrev pub stems : List ℕ → ℕ → ℕ
stems places node = own is_stem places node

-- a word no longer than that of a tree whose triangulation is within the limit
abbrev pub IsShort : List ℕ → Type 0
IsShort word = length word ≤ 4 * (MAX_EDGES / 3) - 3

-- each node has two stems
abbrev pub HasStems : List ℕ → Type 0
HasStems word = (node : ℕ) → IsNode (contour word) node → stems (contour word) node ≡ 2

-- the node hasn't two stems
pub record BreaksStems (places : List ℕ) (node : ℕ) : Type 0 where
  pub is_node : IsNode places node
  pub breaks : stems places node ≡ 2 → ⊥

-- the word of a stem tree
pub record IsStemTree (word : List ℕ) : Type 0 where
  pub in_order : IsInOrder word
  pub short : IsShort word
  pub stems : HasStems word

-- the nodes, the root node among them
abbrev pub nodes : List ℕ → ℕ
nodes word = suc (count OPEN word)
