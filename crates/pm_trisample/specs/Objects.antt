-- The objects that a simple triangulation of size n is made of: n - 1 ones and 3n - 1 zeros, the bits of its stem tree. The ones are
-- the objects from 0 on, and the zeros come after them. As objects of plane trees the ones have arity 4, so that they weigh 3, and
-- the zeros are leaves, which weigh -1 (Poulalhon and Schaeffer 2006).
use Rattle.std.specs.Prelude.{ℕ, ◌-◌, Bool, ltb, List, [], ◌∷◌, map}
use Rattle.pm_brackets.specs.PlantedAt.{IsChosen}
use Rattle.pm_words.specs.Word.{IsGoodStart}
use Rattle.pm_objects.specs.Objects.{arities_of, letters_of}
use Rattle.pm_objects.specs.Preorder.{ArePreordered}

-- the one range of objects that aren't leaves
abbrev pub tri_ranges : ℕ → List (ℕ × ℕ)
tri_ranges n = (4, n - 1) ∷ []

abbrev pub tri_arities : ℕ → List ℕ
tri_arities n = arities_of (tri_ranges n)

-- the bits that the objects are
abbrev pub bits_of_objects : ℕ → List ℕ → List Bool
bits_of_objects n objects = map (λ object. ltb object (n - 1)) objects

-- The arrangement of the objects with this code, read cyclically from one of its two good starts for 2: from the first, counted from
-- 0 in rising order, or from the second.
pub record AreTriObjects (n : ℕ) (code : List ℕ) (which start : ℕ) (objects : List ℕ) : Type 0 where
  pub are_preordered : ArePreordered 2 (tri_arities n) code start objects
  pub is_chosen : IsChosen (IsGoodStart 2 (letters_of (tri_arities n) are_preordered.arrangement)) which start
