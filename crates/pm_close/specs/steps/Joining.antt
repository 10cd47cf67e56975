-- How far the twins of the places are written.
use Rattle.std.specs.Prelude.{◌≡◌, ◌≢◌, ℕ, ◌<◌, ◌⊎◌, List, length, slice_index, slice_get, Some}
use Rattle.pm_close.specs.Closure.{AreTwins}

-- the place is in none of the first k pairs
abbrev pub IsApart : List (ℕ × ℕ) → ℕ → ℕ → Type 0
IsApart pairs k p = (j q r : ℕ) → j < k → slice_get pairs j ≡ Some (q, r) → (q ≢ p) × (r ≢ p)

-- each place has its twin, or is in none of the first k pairs and has what it had
pub record IsJoined (places other : List ℕ) (pairs : List (ℕ × ℕ)) (k : ℕ) (twins : List ℕ) : Type 0 where
  pub as_long : length twins ≡ length places
  pub each : (p : ℕ) → p < length places → AreTwins places p (slice_index twins p) ⊎ (IsApart pairs k p × (slice_index twins p ≡ slice_index other p))
