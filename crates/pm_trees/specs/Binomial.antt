-- Binomial coefficients, by Pascal's rule.
use Rattle.std.specs.Prelude.{ℕ, zero, suc, ◌+◌}

-- how many words of so many letters have a given letter at so many places and another one at the rest
unfoldable pub choose : ℕ → ℕ → ℕ
choose zero zero = 1
choose zero (suc places) = 0
choose (suc letters) zero = 1
choose (suc letters) (suc places) = choose letters places + choose letters (suc places)
