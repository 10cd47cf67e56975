-- The count of faults of a source or a sink: a number up to the greatest of 64 bits that never falls.
use Rattle.std.specs.Prelude.{◌≡◌, ℕ, ◌+◌, ◌<◌, ◌≤◌, ◌⊎◌, min}
use Rattle.std.proofs.Common.{arith}

-- The count is greater after the call than before, or stands at the last number.
abbrev pub FaultsRose : ℕ → ℕ → Type 0
FaultsRose old new = (old < new) ⊎ (new ≡ 18446744073709551615)

-- a count, held below the last number of 64 bits
abbrev pub capped : ℕ → ℕ
capped count = min count 18446744073709551615

-- one more, where the last number of 64 bits isn't reached
abbrev pub one_more : ℕ → ℕ
one_more count = capped (count + 1)

-- a capped count is at most the last number
pub capped-le : (count : ℕ) → capped count ≤ 18446744073709551615
capped-le count = omega arith
