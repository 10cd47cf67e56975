-- The stem tree that choices make, and the rest that they tell beside it.
use Rattle.std.specs.Prelude.{◌≡◌, ℕ, List, ◌∷◌}
use Rattle.pm_objects.specs.Codes.{codes_by_range}
use Rattle.pm_tri.specs.Bits.{IsTreeOfBits}
use Rattle.pm_trisample.specs.Objects.{AreTriObjects, bits_of_objects, tri_ranges}

-- The objects, arranged by this code and read from the good start of this number, are the bits of the tree. The rest is the start, the
-- arrangement code of the ones and that of the zeros, each as they come from there.
pub record MakesTree (n : ℕ) (code : List ℕ) (which : ℕ) (word rest : List ℕ) : Type 0 where
  pub start : ℕ
  pub objects : List ℕ
  pub are_objects : AreTriObjects n code which start objects
  pub is_tree : IsTreeOfBits word (bits_of_objects n objects)
  pub rest_is : rest ≡ start ∷ codes_by_range (tri_ranges n) objects
