-- The order in which the objects of each arity come, told by arrangement codes.
use Rattle.std.specs.Prelude.{◌≡◌, ℕ, zero, suc, List, [], ◌∷◌, ◌++◌, flat_map, map}
use Rattle.pm_perm.specs.Permutation.{IsPermutationList}
use Rattle.pm_lehmer.specs.Lehmer.{code_of}
use Rattle.pm_objects.specs.Objects.{arities_of, arity_of, objects_of}

-- the bounds of an arrangement code: its length, and one less for each entry
abbrev pub code_bounds : ℕ → List ℕ
code_bounds zero = []
code_bounds (suc n) = suc n ∷ code_bounds n

-- for each range the code of its objects, as they come, and then that of the leaf objects
abbrev pub codes_by_range : List (ℕ × ℕ) → List ℕ → List ℕ
codes_by_range ranges objects = flat_map (λ (r : ℕ × ℕ). code_of (objects_of (arities_of ranges) r.0 objects)) ranges ++ code_of (objects_of (arities_of ranges) 0 objects)

-- their bounds, where there are so many leaf objects
abbrev pub bounds_by_range : List (ℕ × ℕ) → ℕ → List ℕ
bounds_by_range ranges leaves = flat_map (λ (r : ℕ × ℕ). code_bounds r.1) ranges ++ code_bounds leaves

-- each object once, with these arities, and in each range in the order that its code tells
pub record AreObjectsOf (ranges : List (ℕ × ℕ)) (arities codes objects : List ℕ) : Type 0 where
  pub permute : IsPermutationList objects
  pub arities_are : map (arity_of (arities_of ranges)) objects ≡ arities
  pub codes_are : codes_by_range ranges objects ≡ codes
