-- Blossoming trees (Schaeffer 1997): plane trees with buds and leaves, planted at a leaf, in which each node of degree 2i
-- has i-1 buds.
use Rattle.std.specs.Prelude.{ℕ, suc, ◌*◌, ◌/◌, ◌<◌, List, length}
use Rattle.pm_limits.specs.declared.TheConstants.{MAX_EDGES}
use Rattle.pm_trees.specs.declared.letters.TheConstants.{LEAF}
use Rattle.pm_brackets.specs.declared.letters.TheConstants.{OPEN}
use Rattle.pm_trees.specs.Node.{IsNode, IsDegree, IsBudded, degree}
use Rattle.pm_trees.specs.Word.{IsInOrder, contour}
use Rattle.pm_brackets.specs.Word.{count}

-- a word whose contour has as many places as the darts of a map within the limit
abbrev pub IsShort : List ℕ → Type 0
IsShort word = length word < 2 * MAX_EDGES

-- the degree of each node is even and within the limit
abbrev pub HasDegrees : List ℕ → Type 0
HasDegrees word = (node : ℕ) → IsNode (contour word) node → IsDegree (degree (contour word) node)

-- each node of degree 2i has i-1 buds
abbrev pub HasBuds : List ℕ → Type 0
HasBuds word = (node : ℕ) → IsNode (contour word) node → IsBudded (contour word) node

-- the word of a blossoming tree
pub record IsBlossoming (word : List ℕ) : Type 0 where
  pub in_order : IsInOrder word
  pub short : IsShort word
  pub degrees : HasDegrees word
  pub buds : HasBuds word

-- the edges of the tree's closure: half of the letters and the plant together
abbrev pub edges : List ℕ → ℕ
edges word = suc (length word) / 2

-- the nodes, the root node among them
abbrev pub nodes : List ℕ → ℕ
nodes word = suc (count OPEN word)

-- the leaves, the plant among them
abbrev pub leaves : List ℕ → ℕ
leaves word = count LEAF (contour word)
