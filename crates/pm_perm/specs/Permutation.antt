-- Permutations of the numbers 0 to size-1. A function stands for its values below the size; a list enters as
-- "its entry at k", `slice_index values`.
use Rattle.std.specs.Prelude.{◌≡◌, ℕ, ◌<◌, List, length, slice_index}

-- a permutation of the numbers below the size: values stay below it, and different numbers have different values
pub record IsPermutationBelow (size : ℕ) (f : ℕ → ℕ) : Type 0 where
  pub stays : (k : ℕ) → k < size → f k < size
  pub injective : (j k : ℕ) → j < size → k < size → f j ≡ f k → j ≡ k

-- a list in which each number below its length stands once
abbrev pub IsPermutationList : List ℕ → Type 0
IsPermutationList values = IsPermutationBelow (length values) (slice_index values)
