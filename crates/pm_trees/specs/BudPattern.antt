-- Bud patterns: how the i-1 buds of a node of degree 2i stand among its 2i-1 entries. A pattern is a word of the letters
-- `b`, for a bud, and `c`, for a child or a leaf. Patterns are ranked from 0 in dictionary order, `b` before `c`.
use Rattle.std.specs.Prelude.{◌≡◌, ◌⊎◌, ℕ, suc, ◌-◌, ◌*◌, ◌/◌, ◌<◌, ◌≤◌, ◌↔◌, List, [], ◌∷◌, length, All}
use Rattle.pm_limits.specs.declared.TheConstants.{MAX_DEGREE}
use Rattle.pm_trees.specs.declared.letters.TheConstants.{BUD}
use Rattle.pm_trees.specs.declared.patterns.TheConstants.{SLOT}
use Rattle.pm_trees.specs.Binomial.{choose}
use Rattle.pm_brackets.specs.Word.{count}

-- half of a degree that a node may have
pub record IsHalfDegree (half : ℕ) : Type 0 where
  pub some : 0 < half
  pub few : half ≤ MAX_DEGREE / 2

-- a bud pattern for a node of so much half degree
pub record IsPattern (half : ℕ) (word : List ℕ) : Type 0 where
  pub letters : All (λ x. (x ≡ BUD) ⊎ (x ≡ SLOT)) word
  pub as_long : suc (length word) ≡ 2 * half
  pub budded : suc (count BUD word) ≡ half

-- half of the degree of the node that has these entries
abbrev pub half_degree : List ℕ → ℕ
half_degree word = suc (length word) / 2

-- the first word stands before the second one in a dictionary
abbrev pub IsBefore : List ℕ → List ℕ → Type 0
IsBefore [] [] = ⊥
IsBefore [] (y ∷ ys) = Unit {0}
IsBefore (x ∷ xs) [] = ⊥
IsBefore (x ∷ xs) (y ∷ ys) = (x < y) ⊎ ((x ≡ y) × IsBefore xs ys)

-- The rank of a pattern is the number of patterns before it: there is a list of so many patterns, in dictionary order,
-- that has each pattern that stands before it, and no other word.
pub record HasRank (half : ℕ) (word : List ℕ) (rank : ℕ) : Type 0 where
  pub is_pattern : IsPattern half word
  pub earlier : ℕ → List ℕ
  pub patterns : (k : ℕ) → k < rank → IsPattern half (earlier k)
  pub before : (k : ℕ) → k < rank → IsBefore (earlier k) word
  pub in_order : (k later : ℕ) → k < later → later < rank → IsBefore (earlier k) (earlier later)
  pub all : (other : List ℕ) → IsPattern half other → IsBefore other word → (k : ℕ) × (k < rank) × (earlier k ≡ other)

-- The patterns of a half degree and the numbers below C(2i-1, i) belong together, one to one and in order.
pub record AreRanked (half : ℕ) : Type 0 where
  pub has_pattern : (rank : ℕ) → rank < choose (2 * half - 1) half → (word : List ℕ) × HasRank half word rank
  pub has_rank : (word : List ℕ) → IsPattern half word → (rank : ℕ) × HasRank half word rank
  pub below : (word : List ℕ) (rank : ℕ) → HasRank half word rank → rank < choose (2 * half - 1) half
  pub one_pattern : (first second : List ℕ) (rank : ℕ) → HasRank half first rank → HasRank half second rank → first ≡ second
  pub one_rank : (word : List ℕ) (first second : ℕ) → HasRank half word first → HasRank half word second → first ≡ second
  pub in_order : (first second : List ℕ) (lower higher : ℕ) → HasRank half first lower → HasRank half second higher → (lower < higher ↔ IsBefore first second)

abbrev pub PatternsAreRanked : Type 0
PatternsAreRanked = (half : ℕ) → 0 < half → AreRanked half
