-- The exchange of two values, and the product of two functions.
use Rattle.std.specs.Prelude.{◌≡◌, ◌≢◌, ℕ, ◌<◌}

-- g is f with its values at a and b exchanged
pub record IsExchangeBelow (size : ℕ) (f g : ℕ → ℕ) (a b : ℕ) : Type 0 where
  pub at_first : g a ≡ f b
  pub at_second : g b ≡ f a
  pub elsewhere : (k : ℕ) → k < size → k ≢ a → k ≢ b → g k ≡ f k

-- f is s after t
pub record IsProductBelow (size : ℕ) (f s t : ℕ → ℕ) : Type 0 where
  pub value : (k : ℕ) → k < size → f k ≡ s (t k)
