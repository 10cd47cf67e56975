-- Structures whose walk meets every dart.
use Rattle.std.specs.Prelude.{◌≡◌, ℕ, ◌<◌, Bool}
use Rattle.pm_map.specs.Structure.{Structure, IsStructure, CarriesTo}
use Rattle.pm_walk.specs.Walk.{IsWalkedInOrder}

-- the structure is the same as one whose darts are numbered along the walk, and there each dart passes as it did
pub record IsWalked (s : Structure) (out : ℕ → Bool) : Type 0 where
  pub walked : Structure
  pub passes : ℕ → Bool
  pub rename : ℕ → ℕ
  pub carries : CarriesTo rename s walked
  pub structure : IsStructure walked
  pub in_order : IsWalkedInOrder walked passes
  pub same : (d : ℕ) → d < s.darts → passes (rename d) ≡ out d
