-- The darts that a pool has to give.
use Rattle.std.specs.Prelude.{◌≡◌, ℕ, ◌+◌, ◌<◌, false, List, length, slice_index}
use Rattle.pm_pool.specs.Region.{IsRegion, Region, is_live, live_darts, room}

-- The first so many entries of the list are darts that aren't live, each once, and there are no others.
pub record IsFree (r : Region) (free : List ℕ) (spare : ℕ) : Type 0 where
  pub as_long : length free ≡ room r
  pub counted : spare + live_darts r ≡ room r
  pub within : (k : ℕ) → k < spare → slice_index free k < room r
  pub dead : (k : ℕ) → k < spare → is_live r (slice_index free k) ≡ false
  pub once : (j k : ℕ) → j < spare → k < spare → slice_index free j ≡ slice_index free k → j ≡ k

-- a region, and the darts of it that can be given
pub record IsStore (r : Region) (numbers : List ℕ) (spare : ℕ) : Type 0 where
  pub region : IsRegion r
  pub free : IsFree r numbers spare
