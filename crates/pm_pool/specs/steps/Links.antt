-- The lists of links of a pool.
use Rattle.std.specs.Prelude.{◌≡◌, ℕ, ◌<◌, List, length, slice_index}
use Rattle.pm_perm.specs.Exchange.{IsExchangeBelow}
use Rattle.pm_perm.specs.Lists.{IsInverseList}
use Rattle.pm_perm.specs.Permutation.{IsPermutationList}

-- each entry is its own place
pub record AreNumbers (numbers : List ℕ) (size : ℕ) : Type 0 where
  pub as_long : length numbers ≡ size
  pub each : (k : ℕ) → k < size → slice_index numbers k ≡ k

-- The next ones, with the values at two places exchanged, and the previous ones, which are their inverse.
pub record IsRelinked (old next prev : List ℕ) (a b : ℕ) : Type 0 where
  pub same_length : length next ≡ length old
  pub exchanged : IsExchangeBelow (length old) (slice_index old) (slice_index next) a b
  pub still : IsPermutationList next
  pub inverse : IsInverseList next prev
