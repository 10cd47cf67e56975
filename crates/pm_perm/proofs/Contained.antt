-- That a list contains a number, told by a place at which the number stands.
use Rattle.std.proofs.Common.{◌≡◌, ◌⊎◌, ℕ, zero, suc, ◌<◌, inl, inr, List, [], ◌∷◌, length, Contains, slice_index, ◌∙◌, arith}
use Rattle.std.proofs.lemmas.List.{get_or_default}

pub contains_at : (values : List ℕ) (number place : ℕ) → place < length values → slice_index values place ≡ number → Contains values number
contains_at values number place within here = (place, within, get_or_default values place number 0 within ∙ here)

-- the place has the number
pub is_at : (values : List ℕ) (number : ℕ) → (found : Contains values number) → slice_index values found.0 ≡ number
is_at values number found = get_or_default values found.0 0 number found.1 ∙ found.2

pub contains_none : (number : ℕ) → Contains [] number → ⊥
contains_none number found = let within = found.1 in omega (arith, within)

pub contains_first : (x number : ℕ) (xs : List ℕ) → x ≡ number → Contains (x ∷ xs) number
contains_first x number xs same = contains_at (x ∷ xs) number 0 (omega arith) same

pub contains_later : (x : ℕ) (xs : List ℕ) (number : ℕ) → Contains xs number → Contains (x ∷ xs) number
contains_later x xs number found = let within = found.1 in (suc found.0, omega (arith, within), found.2)

-- the first entry, or one of the others
pub contains_cases : (x : ℕ) (xs : List ℕ) (number : ℕ) → Contains (x ∷ xs) number → (x ≡ number) ⊎ Contains xs number
contains_cases x xs number (zero, within, here) = inl here
contains_cases x xs number (suc place, within, here) = inr (place, omega (arith, within), here)
