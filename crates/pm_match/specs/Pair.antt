-- Pairs of a bud and a leaf along the contour of a blossoming tree (Schaeffer 1997). Brackets don't count, and the plant
-- counts as a leaf.
use Rattle.std.specs.Prelude.{◌≡◌, ℕ, suc, ◌+◌, ◌%◌, ◌<◌, ◌≤◌, List, ◌++◌, length, slice_index, take, drop}
use Rattle.pm_trees.specs.declared.letters.TheConstants.{LEAF, BUD}
use Rattle.pm_brackets.specs.Word.{count}

-- the letters at the n places after place p, read cyclically, n within one turn
abbrev pub stretch : List ℕ → ℕ → ℕ → List ℕ
stretch places p n = take n (drop (suc p) (places ++ places))

-- A bud at p and a leaf at q are a pair where the cyclic stretch strictly between them has as many buds as leaves, and no
-- prefix of it has more leaves than buds.
pub record IsPair (places : List ℕ) (p q : ℕ) : Type 0 where
  pub bud : slice_index places p ≡ BUD
  pub leaf : slice_index places q ≡ LEAF
  -- how many places stand strictly between
  pub apart : ℕ
  pub in_turn : suc apart < length places
  pub meets : (suc p + apart) % length places ≡ q
  pub equal : count BUD (stretch places p apart) ≡ count LEAF (stretch places p apart)
  pub never_below : (k : ℕ) → k ≤ apart → count LEAF (stretch places p k) ≤ count BUD (stretch places p k)

-- a leaf that is in no pair
pub record IsFree (places : List ℕ) (q : ℕ) : Type 0 where
  pub leaf : slice_index places q ≡ LEAF
  pub alone : (p : ℕ) → IsPair places p q → ⊥

-- a contour whose plant is free
abbrev pub IsBalanced : List ℕ → Type 0
IsBalanced places = IsFree places 0
