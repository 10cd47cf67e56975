-- Pairs on a ring: a function that is its own inverse makes pairs of the numbers that it moves.
use Rattle.std.specs.Prelude.{◌≡◌, ℕ, suc, ◌<◌, ltb}
use Rattle.pm_perm.specs.Count.{count_below}

-- the ring of the numbers below the size: each is followed by the next, the last by 0
pub record IsRingBelow (size : ℕ) (f : ℕ → ℕ) : Type 0 where
  pub next : (k : ℕ) → suc k < size → f k ≡ suc k
  pub last : (k : ℕ) → suc k ≡ size → f k ≡ 0

-- t is its own inverse: k and t k are a pair where they differ
pub record IsInvolutionBelow (size : ℕ) (t : ℕ → ℕ) : Type 0 where
  pub stays : (k : ℕ) → k < size → t k < size
  pub twice : (k : ℕ) → k < size → t (t k) ≡ k

-- the number of pairs, each counted at its greater end
abbrev pub pairs : ℕ → (ℕ → ℕ) → ℕ
pairs size t = count_below (λ k. ltb (t k) k) size

-- the pairs are nested: what stands between the ends of a pair has its partner there too
pub record IsNestedBelow (size : ℕ) (t : ℕ → ℕ) : Type 0 where
  pub above : (p r : ℕ) → t p < size → p < r → r < t p → p < t r
  pub below : (p r : ℕ) → t p < size → p < r → r < t p → t r < t p
