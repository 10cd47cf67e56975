-- Which map and which residue a list of choices gives: simple triangulations (Poulalhon and Schaeffer 2006).
use Rattle.std.specs.Prelude.{◌≡◌, ℕ, suc, ◌-◌, ◌*◌, List, [], ◌∷◌, ◌++◌, slice_index, take}
use Rattle.pm_lists.specs.Valid.{IsValidList}
use Rattle.pm_map.specs.Canonical.{IsCanonical}
use Rattle.pm_map.specs.Rotation.{RotationSystem}
use Rattle.pm_tri.specs.Bounds.{tri_choices}
use Rattle.pm_trisample.specs.Closed.{IsClosedAnew}
use Rattle.pm_trisample.specs.Made.{MakesTree}

-- how many objects there are
abbrev pub objects_of_size : ℕ → ℕ
objects_of_size n = 4 * n - 2

-- The first choices, one for each object, are the code of an arrangement of the objects, and the next one says from which good start
-- they are read: so they make a stem tree. The last choice says at which start of a run the tree is planted anew; it closes to the
-- map. The residue is the rest, and the number of the old plant among the stems.
pub record IsTriSample (n : ℕ) (choices : List ℕ) (map : RotationSystem) (residue : List ℕ) : Type 0 where
  pub valid : IsValidList choices (tri_choices n)
  pub word : List ℕ
  pub rest : List ℕ
  pub is_made : MakesTree n (take (objects_of_size n) choices) (slice_index choices (objects_of_size n)) word rest
  pub old_plant : ℕ
  pub is_closed : IsClosedAnew word (slice_index choices (suc (objects_of_size n))) map old_plant
  pub canonical : IsCanonical map
  pub residue_is : residue ≡ rest ++ old_plant ∷ []
