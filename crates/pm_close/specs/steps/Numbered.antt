-- The closure as a map, with the dart of each place of the contour at hand.
use Rattle.std.specs.Prelude.{◌≡◌, ℕ, ◌<◌, List, length, slice_index}
use Rattle.pm_map.specs.EdgeNumbers.{dart_of}
use Rattle.pm_map.specs.Rotation.{RotationSystem}
use Rattle.pm_close.specs.Closure.{IsClosed}

pub record IsNumbered (places : List ℕ) (map : RotationSystem) (darts : List ℕ) : Type 0 where
  pub is_closed : IsClosed places map
  pub as_long : length darts ≡ length places
  pub each : (p : ℕ) → p < length places → slice_index darts p ≡ dart_of is_closed.closure.twin p
