-- The size of a cycle of a permutation. The degree of a vertex is the size of the cycle of the rotation.
use Rattle.std.specs.Prelude.{◌≡◌, ◌≢◌, ℕ, ◌<◌, List, slice_index}
use Rattle.pm_perm.specs.Cycles.{repeated}

-- the size of the cycle of d under f: the least number of steps, but for none, that leads back to d
pub record IsCycleSize (f : ℕ → ℕ) (d size : ℕ) : Type 0 where
  pub some : 0 < size
  pub back : repeated f size d ≡ d
  pub least : (k : ℕ) → 0 < k → k < size → repeated f k d ≢ d

-- entry d of the list is the size of the cycle of d, for each d below the bound
abbrev pub AreCycleSizes : (ℕ → ℕ) → List ℕ → ℕ → Type 0
AreCycleSizes f sizes bound = (d : ℕ) → d < bound → IsCycleSize f d (slice_index sizes d)
