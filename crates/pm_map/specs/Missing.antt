-- The least number that a list leaves out.
use Rattle.std.specs.Prelude.{ℕ, List, length, Contains}
use Rattle.pm_perm.specs.Least.{IsLeast}

-- a number below the length that stands nowhere in the list, where each lesser number stands
abbrev pub IsLeastMissing : List ℕ → ℕ → Type 0
IsLeastMissing values missing = IsLeast (length values) (Contains values) (λ n. Contains values n → ⊥) missing
