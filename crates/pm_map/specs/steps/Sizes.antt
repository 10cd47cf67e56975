-- What is known while the sizes of the cycles are written.
use Rattle.std.specs.Prelude.{◌≡◌, ℕ, ◌<◌, ◌⊎◌, List, length, slice_index}
use Rattle.pm_map.specs.declared.degrees.Around.{Around}
use Rattle.pm_map.specs.declared.degrees.Around.TheVariants.{Vertex, Face}
use Rattle.pm_map.specs.Rotation.{twin}
use Rattle.pm_map.specs.CycleSize.{IsCycleSize, AreCycleSizes}

-- the sizes below the bound are written, and each other entry is the size or 0
pub record IsSized (f : ℕ → ℕ) (sizes : List ℕ) (bound : ℕ) : Type 0 where
  pub known : AreCycleSizes f sizes bound
  pub right : (d : ℕ) → d < length sizes → (slice_index sizes d ≡ 0) ⊎ IsCycleSize f d (slice_index sizes d)

-- the next dart around the vertex or around the face
abbrev pub step_around : List ℕ → Around → ℕ → ℕ
step_around sigma Vertex d = slice_index sigma d
step_around sigma Face d = slice_index sigma (twin d)
