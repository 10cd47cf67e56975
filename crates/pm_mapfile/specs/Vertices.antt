-- The rotation that the lines of a map text tell.
use Rattle.std.specs.Prelude.{◌≡◌, ℕ, suc, ◌-◌, ◌<◌, List, All, length, slice_index, Contains}
use Rattle.std.specs.List.{concat}

-- the rotation carries each dart of the line to the next one on it, and the last to the first
pub record GoesAround (sigma vertex : List ℕ) : Type 0 where
  pub goes : (k : ℕ) → suc k < length vertex → slice_index sigma (slice_index vertex k) ≡ slice_index vertex (suc k)
  pub closes : slice_index sigma (slice_index vertex (length vertex - 1)) ≡ slice_index vertex 0

-- the rotation of the lines: it has as many darts as they, goes around each of them, and each of its darts stands on one
pub record IsRotationOf (vertices : List (List ℕ)) (sigma : List ℕ) : Type 0 where
  pub size : length sigma ≡ length (concat vertices)
  pub stand : (d : ℕ) → d < length sigma → Contains (concat vertices) d
  pub around : All (GoesAround sigma) vertices
