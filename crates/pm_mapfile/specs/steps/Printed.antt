-- A list of darts, cut into vertices.
use Rattle.std.specs.Prelude.{ℕ, List, [], ◌∷◌, take, drop}

-- the darts of lists of these sizes, one list after another
abbrev pub cut : List ℕ → List ℕ → List (List ℕ)
cut [] darts = []
cut (size ∷ sizes) darts = take size darts ∷ cut sizes (drop size darts)
