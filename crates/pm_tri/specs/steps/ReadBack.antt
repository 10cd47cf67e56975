-- The counts of a contour's letters, read backwards.
use Rattle.std.specs.Prelude.{◌≡◌, ℕ, suc, ◌-◌, ◌<◌, ◌==◌, ℤ, pos, negsuc, List, length, slice_index, slice_index_or, if◌then◌else◌}
use Rattle.pm_tri.specs.declared.letters.TheConstants.{STEM}

-- a stem counts one down, a side one up
abbrev pub count_of : ℕ → ℤ
count_of letter = if letter == STEM then negsuc 0 else pos 1

-- the counts of the letters, from the last place to the first
pub record IsReadBack (places : List ℕ) (counts : List ℤ) : Type 0 where
  pub as_long : length counts ≡ length places
  pub each : (i : ℕ) → i < length places → slice_index_or counts i (pos 0) ≡ count_of (slice_index places (length places - suc i))
