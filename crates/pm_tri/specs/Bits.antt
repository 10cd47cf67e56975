-- Stem trees as bits: of each letter of the word whether it is a `(`, and a last zero. A one opens a node; in each node but the
-- root node the first two zeros are its stems and the third ends it; in the root node the first zero is its stem, the second
-- one ends the word (Poulalhon and Schaeffer 2006).
use Rattle.std.specs.Prelude.{◌≡◌, ℕ, ◌+◌, ◌-◌, ◌*◌, ◌/◌, ◌≤◌, Bool, true, false, ◌==◌, ℤ, pos, negsuc, List, [], ◌∷◌, ◌++◌, length, map}
use Rattle.pm_limits.specs.declared.TheConstants.{MAX_EDGES}
use Rattle.pm_brackets.specs.declared.letters.TheConstants.{OPEN}
use Rattle.pm_words.specs.Word.{IsGood}
use Rattle.pm_tri.specs.StemTree.{IsStemTree, nodes}

-- the bits of a word
abbrev pub bits_of : List ℕ → List Bool
bits_of word = map (λ x. x == OPEN) word ++ false ∷ []

-- a one weighs 3, a zero -1
abbrev pub weight : Bool → ℤ
weight true = pos 3
weight false = negsuc 0

-- the bits of a stem tree: their weights sum to -2, which is reached at the last bit only
pub record AreTreeBits (bits : List Bool) : Type 0 where
  pub good : IsGood 2 (map weight bits)
  pub short : length bits ≤ 4 * (MAX_EDGES / 3) - 2

-- the word of a stem tree with these bits
pub record IsTreeOfBits (word : List ℕ) (bits : List Bool) : Type 0 where
  pub tree : IsStemTree word
  pub bits_are : bits_of word ≡ bits

-- the bits of a stem tree are such bits, four for each node but for two
abbrev pub TreesHaveBits : Type 0
TreesHaveBits = (word : List ℕ) → IsStemTree word → AreTreeBits (bits_of word) × (length (bits_of word) + 2 ≡ 4 * nodes word)

-- such bits are those of a stem tree
abbrev pub BitsHaveTrees : Type 0
BitsHaveTrees = (bits : List Bool) → AreTreeBits bits → (word : List ℕ) × IsTreeOfBits word bits

-- and of no other one
abbrev pub BitsTellTrees : Type 0
BitsTellTrees = (one other : List ℕ) → IsStemTree one → IsStemTree other → bits_of one ≡ bits_of other → one ≡ other
