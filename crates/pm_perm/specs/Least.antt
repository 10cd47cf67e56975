-- The least number that breaks a rule.
use Rattle.std.specs.Prelude.{ℕ, ◌<◌}

-- a number below the size that breaks the rule, where each lesser number keeps it
pub record IsLeast (size : ℕ) (Keeps Breaks : ℕ → Type 0) (n : ℕ) : Type 0 where
  pub within : n < size
  pub breaks : Breaks n
  pub least : (k : ℕ) → k < n → Keeps k
