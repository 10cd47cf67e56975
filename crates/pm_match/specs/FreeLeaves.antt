-- The two free leaves of a contour.
use Rattle.std.specs.Prelude.{◌≡◌, ℕ, ◌<◌, ◌⊎◌, List}
use Rattle.pm_match.specs.Pair.{IsFree}

-- the free leaves in rising order, and no others are free
pub record AreFreeLeaves (places : List ℕ) (first second : ℕ) : Type 0 where
  pub in_order : first < second
  pub first_is : IsFree places first
  pub second_is : IsFree places second
  pub no_third : (q : ℕ) → IsFree places q → (q ≡ first) ⊎ (q ≡ second)
