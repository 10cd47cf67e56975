-- The cycles of a permutation of the numbers 0 to size-1, and their number.
use Rattle.std.specs.Prelude.{◌≡◌, ℕ, zero, suc, ◌≤◌, min, eqb}
use Rattle.pm_perm.specs.Count.{count_below}

-- the number that is met from d after so many steps
abbrev pub repeated : (ℕ → ℕ) → ℕ → ℕ → ℕ
repeated f zero d = d
repeated f (suc steps) d = f (repeated f steps d)

-- e is in the cycle of d: it is met from d by repeating f
pub record IsInCycle (f : ℕ → ℕ) (d e : ℕ) : Type 0 where
  pub steps : ℕ
  pub leads : repeated f steps d ≡ e

-- the least number in the cycle of d
pub record IsLeastInCycle (f : ℕ → ℕ) (d leader : ℕ) : Type 0 where
  pub met : IsInCycle f d leader
  pub least : (e : ℕ) → IsInCycle f d e → leader ≤ e

-- the least of the numbers that are met from d within so many steps
abbrev pub least_met : (ℕ → ℕ) → ℕ → ℕ → ℕ
least_met f zero d = d
least_met f (suc steps) d = min (least_met f steps d) (repeated f (suc steps) d)

-- the leader of d: the least number in its cycle, which is met within as many steps as there are numbers
unfoldable pub leader : ℕ → (ℕ → ℕ) → ℕ → ℕ
leader size f d = least_met f size d

-- the number of cycles: of the numbers that are least in their cycle
abbrev pub cycles : ℕ → (ℕ → ℕ) → ℕ
cycles size f = count_below (λ d. eqb (leader size f d) d) size
