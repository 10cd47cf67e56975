-- Pairs of a degree and a count, in rising order of the degree: how many nodes of a tree have which degree.
use Rattle.std.specs.Prelude.{◌≡◌, ℕ, ◌*◌, ◌/◌, ◌%◌, ◌<◌, ◌≤◌, List, ◌∷◌, length, slice_index_or}
use Rattle.std.specs.List.{sum_by}
use Rattle.pm_limits.specs.declared.TheConstants.{MAX_DEGREE, MAX_EDGES}

-- the pair at a place; past the end the pair of no degree and no node
abbrev pub pair_at : List (ℕ × ℕ) → ℕ → ℕ × ℕ
pair_at pairs k = slice_index_or pairs k (0, 0)

-- the degree before the one at the place; 0 at the first place
abbrev pub degree_before : List (ℕ × ℕ) → ℕ → ℕ
degree_before pairs k = (pair_at ((0, 0) ∷ pairs) k).0

-- a degree that a node may have and that is above the one before, and some nodes that have it
pub record IsRight (before degree count : ℕ) : Type 0 where
  pub even : degree % 2 ≡ 0
  pub some : 2 ≤ degree
  pub few : degree ≤ MAX_DEGREE
  pub rising : before < degree
  pub counted : 0 < count

abbrev pub IsRightPair : List (ℕ × ℕ) → ℕ → Type 0
IsRightPair pairs k = IsRight (degree_before pairs k) (pair_at pairs k).0 (pair_at pairs k).1

-- the first place of a list without pairs, or the place of a pair that isn't right
pub data BreaksPair (pairs : List (ℕ × ℕ)) (place : ℕ) : Type 0 where
  empty : length pairs ≡ 0 → place ≡ 0 → BreaksPair pairs place
  wrong : place < length pairs → (IsRightPair pairs place → ⊥) → BreaksPair pairs place

-- some pairs, each of them right
pub record ArePairs (pairs : List (ℕ × ℕ)) : Type 0 where
  pub some : 0 < length pairs
  pub right : (k : ℕ) → k < length pairs → IsRightPair pairs k

-- the sum of the degrees of all nodes
abbrev pub degree_sum : List (ℕ × ℕ) → ℕ
degree_sum pairs = sum_by (λ (p : ℕ × ℕ). p.0 * p.1) pairs

-- the edges of a map whose vertices have these degrees: half of their sum
abbrev pub edges_of : List (ℕ × ℕ) → ℕ
edges_of pairs = degree_sum pairs / 2

-- pairs that are right, and not too many edges
pub record IsProfile (pairs : List (ℕ × ℕ)) : Type 0 where
  pub are_pairs : ArePairs pairs
  pub few : edges_of pairs ≤ MAX_EDGES
