-- What the writer of a medial rotation has written so far.
use Rattle.std.specs.Prelude.{◌≡◌, ℕ, suc, ◌*◌, ◌<◌, List, length, slice_index}
use Rattle.pm_map.specs.Rotation.{twin}

-- of the darts below the bound the dart after the plus of the next one and the dart after the minus of that are written
pub record IsMedialRotation (sigma rotation : List ℕ) (bound : ℕ) : Type 0 where
  pub double : length rotation ≡ 2 * length sigma
  pub plus : (d : ℕ) → d < bound → slice_index rotation (2 * slice_index sigma d) ≡ suc (2 * d)
  pub minus : (d : ℕ) → d < bound → slice_index rotation (suc (2 * d)) ≡ 2 * twin (slice_index sigma d)

-- of the darts below the bound the next ones of the dual are written
pub record IsDualRotation (sigma rotation : List ℕ) (bound : ℕ) : Type 0 where
  pub long : length rotation ≡ bound
  pub entry : (d : ℕ) → d < bound → slice_index rotation d ≡ slice_index sigma (twin d)
