-- The arrangement code of a list, known as its Lehmer code (D. H. Lehmer, Teaching combinatorial tricks to a
-- computer, 1960): entry k counts the later entries that are smaller than entry k.
use Rattle.std.specs.Prelude.{◌≡◌, ℕ, ◌+◌, ◌<◌, List, [], ◌∷◌, length, map, slice_index, count_by, nat_lt}
use Rattle.pm_perm.specs.Permutation.{IsPermutationList}

-- how many entries are smaller than the number
unfoldable pub count_below : ℕ → List ℕ → ℕ
count_below number entries = count_by (λ entry. nat_lt entry number) entries

-- for each of the later entries how many of all the entries are smaller
unfoldable pub ranks_among : List ℕ → List ℕ → List ℕ
ranks_among entries later = map (λ entry. count_below entry entries) later

-- the code of a list
abbrev pub code_of : List ℕ → List ℕ
code_of [] = []
code_of (entry ∷ later) = count_below entry later ∷ code_of later

-- a list that can be a code: entry k is below the length less k
pub record IsArrangementCode (code : List ℕ) : Type 0 where
  pub below : (place : ℕ) → place < length code → slice_index code place + place < length code

-- a permutation of the numbers from 0 on with this code
pub record IsArrangementOf (code arrangement : List ℕ) : Type 0 where
  pub is_permutation : IsPermutationList arrangement
  pub has_code : code_of arrangement ≡ code

-- the permutation is the only one with this code
pub record IsOnlyArrangementOf (code arrangement : List ℕ) : Type 0 where
  pub only : (other : List ℕ) → IsArrangementOf code other → other ≡ arrangement

-- the law that the code of a permutation's code is had back, and is had by no other permutation
pub record ArrangeUndoesCode : Type 0 where
  pub is_code : (entries : List ℕ) → IsArrangementCode (code_of entries)
  pub undoes : (entries : List ℕ) → IsPermutationList entries → IsArrangementOf (code_of entries) entries
  pub only : (entries : List ℕ) → IsPermutationList entries → IsOnlyArrangementOf (code_of entries) entries

-- the law that each code has a permutation, and that this permutation's code is the code
pub record CodeUndoesArrange : Type 0 where
  pub has_arrangement : (code : List ℕ) → IsArrangementCode code → (arrangement : List ℕ) × IsArrangementOf code arrangement
  pub only : (code arrangement : List ℕ) → IsArrangementOf code arrangement → IsOnlyArrangementOf code arrangement
  pub undoes : (code arrangement : List ℕ) → IsArrangementOf code arrangement → code_of arrangement ≡ code
