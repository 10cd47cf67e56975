-- Sides and stems along the contour of a stem tree, which is read cyclically (Poulalhon and Schaeffer 2006): each bracket is a
-- side, and counts one up; each stem counts one down.
use Rattle.std.specs.Prelude.{ℕ, ◌+◌, ◌%◌, Bool, ◌==◌, ◌||◌, List, length, slice_index}
use Rattle.pm_perm.specs.Count.{count_below}
use Rattle.pm_brackets.specs.declared.letters.TheConstants.{OPEN, CLOSE}
use Rattle.pm_tri.specs.declared.letters.TheConstants.{STEM}

-- the letter at a place, also past the contour's end, where it is read again
abbrev pub letter : List ℕ → ℕ → ℕ
letter places k = slice_index places (k % length places)

abbrev pub is_side : List ℕ → ℕ → Bool
is_side places k = (letter places k == OPEN) || (letter places k == CLOSE)

abbrev pub is_stem_at : List ℕ → ℕ → Bool
is_stem_at places k = letter places k == STEM

-- how many of so many places, from one of them on, are sides
abbrev pub sides : List ℕ → ℕ → ℕ → ℕ
sides places from many = count_below (λ k. is_side places (from + k)) many

-- and how many are stems
abbrev pub stem_steps : List ℕ → ℕ → ℕ → ℕ
stem_steps places from many = count_below (λ k. is_stem_at places (from + k)) many
