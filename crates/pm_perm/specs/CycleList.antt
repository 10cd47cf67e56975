-- The numbers of a cycle as a list, and what becomes of it where two values are exchanged.
use Rattle.std.specs.Prelude.{◌≡◌, ◌≢◌, ◌↔◌, ℕ, suc, ◌<◌, ◌-◌, List, ◌∷◌, ◌++◌, length, slice_get, slice_index, Some}
use Rattle.pm_perm.specs.Permutation.{IsPermutationBelow}
use Rattle.pm_perm.specs.Cycles.{IsInCycle}
use Rattle.pm_perm.specs.Exchange.{IsExchangeBelow}

-- the list is the cycle of d, from d on: each number is followed by the next, the last leads back to d, and d stands once
pub record IsCycleFrom (f : ℕ → ℕ) (d : ℕ) (numbers : List ℕ) : Type 0 where
  pub begins : slice_get numbers 0 ≡ Some d
  pub goes : (k : ℕ) → suc k < length numbers → slice_index numbers (suc k) ≡ f (slice_index numbers k)
  pub ends : f (slice_index numbers (length numbers - 1)) ≡ d
  pub once : (k : ℕ) → suc k < length numbers → slice_index numbers (suc k) ≢ d

-- where a and b are in one cycle, which from a on is a, `first`, b and `second`, the exchange makes of it the cycle of a
-- and `second` and that of b and `first`
abbrev pub ExchangeSplitsCycle : Type 0
ExchangeSplitsCycle = (n : ℕ) (f g : ℕ → ℕ) (a b : ℕ) (first second : List ℕ) → IsPermutationBelow n f → a < n → IsExchangeBelow n f g a b
    → IsCycleFrom f a (a ∷ first ++ b ∷ second) → IsCycleFrom g a (a ∷ second) × IsCycleFrom g b (b ∷ first)

-- and the other way round, where a and b are in two cycles
abbrev pub ExchangeJoinsCycles : Type 0
ExchangeJoinsCycles = (n : ℕ) (f g : ℕ → ℕ) (a b : ℕ) (first second : List ℕ) → IsPermutationBelow n f → a < n → b < n → IsExchangeBelow n f g a b
    → (IsInCycle f a b → ⊥) → IsCycleFrom f a (a ∷ second) → IsCycleFrom f b (b ∷ first) → IsCycleFrom g a (a ∷ first ++ b ∷ second)

-- each other cycle stays
abbrev pub ExchangeLeavesCycles : Type 0
ExchangeLeavesCycles = (n : ℕ) (f g : ℕ → ℕ) (a b d : ℕ) (numbers : List ℕ) → IsPermutationBelow n f → a < n → b < n → d < n → IsExchangeBelow n f g a b
    → (IsInCycle f d a → ⊥) → (IsInCycle f d b → ⊥) → (IsCycleFrom f d numbers ↔ IsCycleFrom g d numbers)
