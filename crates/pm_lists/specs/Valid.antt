-- When a list of numbers is valid for a list of bounds, and the first place at which it is not.
use Rattle.std.specs.Prelude.{◌≡◌, ℕ, ◌<◌, ◌≤◌, List, length, slice_index, All}

-- each bound is at least 1, so that some number is below it
pub record AreBounds (bounds : List ℕ) : Type 0 where
  pub each : All (λ bound. 1 ≤ bound) bounds

-- the list is as long as the bounds, and each entry is below the bound at its place
pub record IsValidList (values bounds : List ℕ) : Type 0 where
  pub as_long : length values ≡ length bounds
  pub below : (place : ℕ) → place < length values → slice_index values place < slice_index bounds place

-- the first place, counted from 0, whose entry is not below its bound
pub record IsFirstBroken (values bounds : List ℕ) (place : ℕ) : Type 0 where
  pub within : place < length values
  pub broken : slice_index bounds place ≤ slice_index values place
  pub before : (earlier : ℕ) → earlier < place → slice_index values earlier < slice_index bounds earlier
