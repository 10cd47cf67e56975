-- The Euler characteristic, and what it says.
use Rattle.std.proofs.Common.{◌≡◌, ◌≢◌, ℕ, ◌+◌, ℤ, pos, ◌-ℤ◌, ◌∙◌, arith}
use Rattle.std.proofs.lemmas.Int.{ints}
use Rattle.pm_map.specs.Structure.{Structure}
use Rattle.pm_map.specs.Plane.{vertices, faces, edges, euler_characteristic, HasEulerTwo}

-- Euler characteristic 2 says that the structure is plane
pub euler_two : (s : Structure) → euler_characteristic s ≡ pos 2 → HasEulerTwo s
euler_two s e = plain (vertices s + faces s) (edges s) e where
  plain : (a b : ℕ) → pos a -ℤ pos b ≡ pos 2 → a ≡ b + 2
  plain a b e = omega (arith, ints)

pub euler_other : (s : Structure) (euler : ℤ) → euler ≡ euler_characteristic s → euler ≢ pos 2 → HasEulerTwo s → ⊥
euler_other s euler is other two = other (is ∙ plain (vertices s + faces s) (edges s) two) where
  plain : (a b : ℕ) → a ≡ b + 2 → pos a -ℤ pos b ≡ pos 2
  plain a b e = omega (arith, ints)
