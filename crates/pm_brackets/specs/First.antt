-- The least place with a property.
use Rattle.std.specs.Prelude.{ℕ, ◌≤◌}

-- the place has the property, and no smaller one has it
pub record IsFirst (P : ℕ → Type 0) (place : ℕ) : Type 0 where
  pub here : P place
  pub least : (k : ℕ) → P k → place ≤ k
