-- Tables of numbers: how many entries of a list have which value.
use Rattle.std.specs.Prelude.{◌≡◌, ℕ, ◌/◌, ◌<◌, ◌≤◌, ◌==◌, List, length, slice_index, count_by}

-- entry d is the number of entries that are d, for each d that the table has
pub record AreTallied (entries table : List ℕ) : Type 0 where
  pub each : (d : ℕ) → d < length table → slice_index table d ≡ count_by (λ entry. entry == d) entries

-- the entries from 1 on that are below the bound are divided by their places; the others are the same
pub record AreDivided (before after : List ℕ) (bound : ℕ) : Type 0 where
  pub as_long : length after ≡ length before
  pub divided : (place : ℕ) → 0 < place → place < bound → slice_index after place ≡ slice_index before place / place
  pub first : slice_index after 0 ≡ slice_index before 0
  pub later : (place : ℕ) → bound ≤ place → slice_index after place ≡ slice_index before place

-- Entry d, from 1 on, is the number of entries that are d, divided by d; entry 0 is 1 where there are no entries, and else
-- the number of those that are 0.
pub record IsTableOf (entries table : List ℕ) : Type 0 where
  pub divided : (d : ℕ) → 0 < d → d < length table → slice_index table d ≡ count_by (λ entry. entry == d) entries / d
  pub empty : length entries ≡ 0 → slice_index table 0 ≡ 1
  pub filled : 0 < length entries → slice_index table 0 ≡ count_by (λ entry. entry == 0) entries
