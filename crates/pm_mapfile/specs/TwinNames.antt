-- The map that a map text of version 2 tells: the lines of the twins name its darts.
use Rattle.std.specs.Prelude.{◌≡◌, ℕ, ◌<◌, List, [], ◌∷◌, length, slice_index}
use Rattle.pm_map.specs.Rotation.{RotationSystem}

-- the darts on the lines of twins, one line after another
abbrev pub named_darts : List (ℕ × ℕ) → List ℕ
named_darts [] = []
named_darts (twins ∷ others) = twins.0 ∷ twins.1 ∷ named_darts others

-- The map is the other with its darts named anew: its dart d is the dart of the other at place d of the names. So where the
-- names are the darts on the lines of twins, the first dart of the k-th line is dart 2k, and the second is dart 2k+1.
pub record IsNamedAnew (names : List ℕ) (told map : RotationSystem) : Type 0 where
  pub size : length map.sigma ≡ length told.sigma
  pub below : (d : ℕ) → d < length map.sigma → slice_index map.sigma d < length map.sigma
  pub next : (d : ℕ) → d < length map.sigma → slice_index names (slice_index map.sigma d) ≡ slice_index told.sigma (slice_index names d)
  pub root_below : 0 < length map.sigma → map.root < length map.sigma
  pub root : 0 < length map.sigma → slice_index names map.root ≡ told.root
  pub no_root : length map.sigma ≡ 0 → map.root ≡ 0
