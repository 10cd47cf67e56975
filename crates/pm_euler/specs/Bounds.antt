-- The bounds of the choices and of the residues.
use Rattle.std.specs.Prelude.{ℕ, zero, suc, ◌+◌, ◌-◌, ◌*◌, List, [], ◌∷◌, ◌++◌, map, replicate}
use Rattle.pm_trees.specs.Binomial.{choose}
use Rattle.pm_trees.specs.Pairs.{edges_of}
use Rattle.pm_objects.specs.Codes.{bounds_by_range, code_bounds}
use Rattle.pm_euler.specs.Objects.{halves_of, leaves_of_profile, ranges_of}

-- the bounds of n choices of a growth, after this many: choice k, from k = 1, is below 2(2k-1)
abbrev pub growth_bounds : ℕ → ℕ → List ℕ
growth_bounds grown zero = []
growth_bounds grown (suc n) = 2 * (2 * grown + 1) ∷ growth_bounds (suc grown) n

-- of quartic maps with n vertices: the growth and a pattern for each node, and then which free leaf
abbrev pub quartic_prefixes : ℕ → List ℕ
quartic_prefixes n = growth_bounds 0 n ++ replicate n 3

abbrev pub quartic_choices : ℕ → List ℕ
quartic_choices n = quartic_prefixes n ++ 2 ∷ []

-- and which leaf the old plant is, of n + 2, and the arrangement code of the other leaves
abbrev pub quartic_residues : ℕ → List ℕ
quartic_residues n = (n + 2) ∷ code_bounds (n + 1)

-- of maps with these degrees: the code of an arrangement of the objects and a pattern for each node object, and then which
-- free leaf
abbrev pub eulerian_prefixes : List (ℕ × ℕ) → List ℕ
eulerian_prefixes pairs = code_bounds (suc (edges_of pairs)) ++ map (λ half. choose (2 * half - 1) half) (halves_of pairs)

abbrev pub eulerian_choices : List (ℕ × ℕ) → List ℕ
eulerian_choices pairs = eulerian_prefixes pairs ++ 2 ∷ []

-- and the start of the preorder, for each degree the code of its objects and the code of the leaf objects, and then which leaf
-- the old plant is
abbrev pub eulerian_rests : List (ℕ × ℕ) → List ℕ
eulerian_rests pairs = suc (edges_of pairs) ∷ bounds_by_range (ranges_of pairs) (leaves_of_profile pairs)

abbrev pub eulerian_residues : List (ℕ × ℕ) → List ℕ
eulerian_residues pairs = eulerian_rests pairs ++ suc (leaves_of_profile pairs) ∷ []
