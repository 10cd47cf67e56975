-- Nodes: a node is named by the place of its `(`, and the root node by 0, the place of the plant.
use Rattle.std.specs.Prelude.{◌≡◌, ℕ, suc, ◌-◌, ◌*◌, ◌%◌, ◌≤◌, ◌==◌, List, [], ◌∷◌, length, drop, if◌then◌else◌}
use Rattle.pm_limits.specs.declared.TheConstants.{MAX_DEGREE}
use Rattle.pm_trees.specs.declared.letters.TheConstants.{BUD}
use Rattle.pm_brackets.specs.declared.letters.TheConstants.{OPEN, CLOSE}
use Rattle.pm_brackets.specs.Word.{count}
pub use Rattle.pm_brackets.specs.Node.{IsNode}

-- The letters that stand on the level on which a text begins, where so many brackets are open: what stands inside
-- brackets is left out, a bracket pair counts as its `(`, and the level ends at the first `)` that closes none of these.
abbrev pub own_letters : ℕ → List ℕ → List ℕ
own_letters depth [] = []
own_letters depth (x ∷ xs) =
    if x == OPEN then (if depth == 0 then x ∷ own_letters 1 xs else own_letters (suc depth) xs)
    else (if x == CLOSE then (if depth == 0 then [] else own_letters (depth - 1) xs)
    else (if depth == 0 then x ∷ own_letters 0 xs else own_letters depth xs))

-- the entries of a node: the letters of its own level, where a child counts as one
abbrev pub entries : List ℕ → ℕ → List ℕ
entries places node = own_letters 0 (drop (suc node) places)

-- the degree of a node: its entries, and the edge to its parent or the plant
abbrev pub degree : List ℕ → ℕ → ℕ
degree places node = suc (length (entries places node))

-- the buds at a node
abbrev pub buds : List ℕ → ℕ → ℕ
buds places node = count BUD (entries places node)

-- an even degree within the limit; a degree is never 0
pub record IsDegree (d : ℕ) : Type 0 where
  pub even : d % 2 ≡ 0
  pub few : d ≤ MAX_DEGREE

-- a node of degree 2i with i-1 buds
abbrev pub IsBudded : List ℕ → ℕ → Type 0
IsBudded places node = 2 * suc (buds places node) ≡ degree places node

-- the node's degree is odd or above the limit
pub record BreaksDegree (places : List ℕ) (node : ℕ) : Type 0 where
  pub is_node : IsNode places node
  pub breaks : IsDegree (degree places node) → ⊥

-- the node hasn't as many buds as its degree wants
pub record BreaksBuds (places : List ℕ) (node : ℕ) : Type 0 where
  pub is_node : IsNode places node
  pub breaks : IsBudded places node → ⊥
