-- Permutations as lists: the inverse and the leaders.
use Rattle.std.specs.Prelude.{◌≡◌, ℕ, ◌<◌, List, length, slice_index}
use Rattle.pm_perm.specs.Cycles.{leader, IsLeastInCycle}

-- the inverse of a permutation: at each value it has the place where that value stands
pub record IsInverseList (values inverse : List ℕ) : Type 0 where
  pub same_length : length inverse ≡ length values
  pub undoes : (k : ℕ) → k < length values → slice_index inverse (slice_index values k) ≡ k
  pub undone : (k : ℕ) → k < length values → slice_index values (slice_index inverse k) ≡ k

-- entry k is the least number in the cycle of k
pub record IsLeaderList (values leaders : List ℕ) : Type 0 where
  pub same_length : length leaders ≡ length values
  pub leads : (k : ℕ) → k < length values → slice_index leaders k ≡ leader (length values) (slice_index values) k
  pub least : (k : ℕ) → k < length values → IsLeastInCycle (slice_index values) k (slice_index leaders k)
