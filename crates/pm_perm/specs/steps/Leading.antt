-- What is known while the cycles are walked, one after another, in the order of their least numbers.
use Rattle.std.specs.Prelude.{◌≡◌, ℕ, ◌<◌, ◌≤◌, Bool, ltb, List, length, slice_index}
use Rattle.pm_perm.specs.Cycles.{leader}

-- the numbers whose leader is below the bound are marked, and no others
pub record IsMarkedBelow (size : ℕ) (f : ℕ → ℕ) (bound : ℕ) (marked : ℕ → Bool) : Type 0 where
  pub marks : (k : ℕ) → k < size → marked k ≡ ltb (leader size f k) bound

-- an entry is the leader where that is below the bound, and the length elsewhere
pub record IsLedBelow (values : List ℕ) (bound : ℕ) (leaders : List ℕ) : Type 0 where
  pub leads : (k : ℕ) → k < length values → leader (length values) (slice_index values) k < bound → slice_index leaders k ≡ leader (length values) (slice_index values) k
  pub open_later : (k : ℕ) → k < length values → bound ≤ leader (length values) (slice_index values) k → slice_index leaders k ≡ length values
