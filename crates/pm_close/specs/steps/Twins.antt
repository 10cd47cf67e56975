-- The twins of the places of a contour.
use Rattle.std.specs.Prelude.{◌≡◌, ℕ, ◌<◌, List, length, slice_index}
use Rattle.pm_close.specs.Closure.{AreTwins}

-- a list with the twin of each place of a contour
pub record IsTwinList (places twins : List ℕ) : Type 0 where
  pub as_long : length twins ≡ length places
  pub each : (p : ℕ) → p < length places → AreTwins places p (slice_index twins p)
