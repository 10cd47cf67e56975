-- Numbers in a line, each after a space.
use Rattle.std.specs.Prelude.{ℕ, List, [], ◌∷◌, ◌++◌, decimal}

-- a space before each number, and its decimal digits (32 is the space)
abbrev pub spaced_numbers : List ℕ → List ℕ
spaced_numbers [] = []
spaced_numbers (number ∷ numbers) = 32 ∷ decimal number ++ spaced_numbers numbers
