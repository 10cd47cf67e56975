-- The bounds of the choices and of the residues of simple triangulations (Poulalhon and Schaeffer 2006).
use Rattle.std.specs.Prelude.{ℕ, ◌-◌, ◌*◌, List, [], ◌∷◌, ◌++◌}
use Rattle.pm_class.specs.ClassLaws.{AreLimits}
use Rattle.pm_objects.specs.Codes.{code_bounds}
use Rattle.pm_tri.specs.Triangulations.{IsTriSize}

-- of size n: the code of an arrangement of the bits, n - 1 ones and 3n - 1 zeros; then which of two good starts, and which of
-- the two runs of stems
abbrev pub tri_choices : ℕ → List ℕ
tri_choices n = code_bounds (4 * n - 2) ++ 2 ∷ 2 ∷ []

-- and the start, the code of the ones and that of the zeros, and which stem the old plant is, of 2n
abbrev pub tri_residues : ℕ → List ℕ
tri_residues n = (4 * n - 2) ∷ (code_bounds (n - 1) ++ code_bounds (3 * n - 1)) ++ 2 * n ∷ []

-- at each size these are neither too many nor too great
abbrev pub TriBoundsAreLimits : Type 0
TriBoundsAreLimits = (n : ℕ) → IsTriSize n → AreLimits (tri_choices n) (tri_residues n)
