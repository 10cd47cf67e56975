-- Marks: a list of truth values that stands for a set of numbers.
use Rattle.std.specs.Prelude.{◌≡◌, ℕ, ◌<◌, Bool, false, IsTrue, List, length, slice_index, slice_index_or, Contains}
use Rattle.pm_perm.specs.Least.{IsLeast}

-- the number is marked
abbrev pub IsMarked : List Bool → ℕ → Type 0
IsMarked marks n = IsTrue (slice_index_or marks n false)

-- each number is marked
abbrev pub AllMarked : List Bool → Type 0
AllMarked marks = (n : ℕ) → n < length marks → IsMarked marks n

-- no number is marked
abbrev pub NoneMarked : List Bool → Type 0
NoneMarked marks = (n : ℕ) → slice_index_or marks n false ≡ false

-- the least number that isn't marked
abbrev pub IsLeastUnmarked : List Bool → ℕ → Type 0
IsLeastUnmarked marks n = IsLeast (length marks) (IsMarked marks) (λ k. slice_index_or marks k false ≡ false) n

-- the first values of the list are marked, as far as the marks go, and nothing but values of the list
pub record MarksValues (values : List ℕ) (count : ℕ) (marks : List Bool) : Type 0 where
  pub marked : (k : ℕ) → k < count → slice_index values k < length marks → IsMarked marks (slice_index values k)
  pub stands : (n : ℕ) → IsMarked marks n → Contains values n
