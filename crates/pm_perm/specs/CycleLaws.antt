-- The laws of cycles.
use Rattle.std.specs.Prelude.{◌≡◌, ◌↔◌, ℕ, ◌+◌, ◌<◌, ◌≤◌, cond, eqb}
use Rattle.pm_perm.specs.Permutation.{IsPermutationBelow}
use Rattle.pm_perm.specs.Cycles.{leader, cycles, IsInCycle}
use Rattle.pm_perm.specs.Exchange.{IsExchangeBelow, IsProductBelow}
use Rattle.pm_perm.specs.Pairs.{IsRingBelow, IsInvolutionBelow, IsNestedBelow, pairs}

-- two numbers are in one cycle of a permutation exactly where they have one leader
abbrev pub LeadersTellCycles : Type 0
LeadersTellCycles = (n : ℕ) (f : ℕ → ℕ) (a b : ℕ) → IsPermutationBelow n f → a < n → b < n → (IsInCycle f a b ↔ (leader n f a ≡ leader n f b))

-- The cycles after the exchange of the values at a and b, and two more where a and b were in different cycles, are the
-- cycles before and one more; where a and b are one number, nothing changes.
abbrev pub ExchangeSplitsOrJoins : Type 0
ExchangeSplitsOrJoins = (n : ℕ) (f g : ℕ → ℕ) (a b : ℕ) → IsPermutationBelow n f → a < n → b < n → IsExchangeBelow n f g a b
    → cycles n g + cond (eqb (leader n f a) (leader n f b)) 0 2 ≡ cycles n f + cond (eqb a b) 0 1

-- On a ring s, the product of s after pairs t has one cycle and one more for each pair exactly where the pairs are
-- nested.
abbrev pub NestedPairsSplit : Type 0
NestedPairsSplit = (n : ℕ) (f s t : ℕ → ℕ) → 0 < n → IsRingBelow n s → IsInvolutionBelow n t → IsProductBelow n f s t
    → (IsNestedBelow n t ↔ (cycles n f ≡ 1 + pairs n t))

-- Renumbered by p, a permutation has as many cycles.
abbrev pub RenumberingKeepsCycles : Type 0
RenumberingKeepsCycles = (n : ℕ) (p f g : ℕ → ℕ) → IsPermutationBelow n p → IsPermutationBelow n f → IsPermutationBelow n g
    → ((k : ℕ) → k < n → p (f k) ≡ g (p k)) → cycles n f ≡ cycles n g

-- The product with pairs has at most one more cycle for each pair.
abbrev pub PairsSplitAtMost : Type 0
PairsSplitAtMost = (n : ℕ) (f s t : ℕ → ℕ) → IsPermutationBelow n s → IsInvolutionBelow n t → IsProductBelow n f s t → cycles n f ≤ cycles n s + pairs n t
