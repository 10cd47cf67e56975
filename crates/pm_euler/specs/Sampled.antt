-- How maps are sampled by blossoming trees, in three steps (Schaeffer 1997), the same for each class: a prefix of the choices
-- makes a tree and a rest; the tree is planted anew at a free leaf; and it is closed.
use Rattle.std.specs.Prelude.{◌≡◌, ℕ, ◌<◌, List, [], ◌∷◌, ◌++◌, length}
use Rattle.pm_lists.specs.Valid.{IsValidList}
use Rattle.pm_trees.specs.Blossoming.{IsBlossoming}
use Rattle.pm_trees.specs.Degrees.{nodes_of}
use Rattle.pm_trees.specs.Pairs.{pair_at}
use Rattle.pm_trees.specs.Word.{contour}
use Rattle.pm_map.specs.Rotation.{RotationSystem, IsRootedMap}
use Rattle.pm_close.specs.Closure.{IsClosed}
use Rattle.pm_euler.specs.Closed.{IsCanonicalClosure}
use Rattle.pm_euler.specs.PlantedAnew.{IsPlantedAnew}

-- the second and the third step: the tree, planted anew at its free leaf of this number, closes to the map
pub record IsClosedAnew (word : List ℕ) (free : ℕ) (map : RotationSystem) (old_plant : ℕ) : Type 0 where
  pub turned : List ℕ
  pub is_anew : IsPlantedAnew word free turned old_plant
  pub is_closed : IsCanonicalClosure turned map

-- the same for a closure whose darts aren't named canonically
pub record IsClosedUnnamed (word : List ℕ) (free : ℕ) (map : RotationSystem) (old_plant : ℕ) : Type 0 where
  pub rooted : IsRootedMap map
  pub turned : List ℕ
  pub is_anew : IsPlantedAnew word free turned old_plant
  pub is_closed : IsClosed (contour turned) map

-- All three: all choices but the last are the prefix, and the last says at which free leaf the tree is planted anew. The
-- residue joins the rest and the number of the old plant.
pub record SamplesByTree (prefixes : List ℕ) (makes : List ℕ → List ℕ → List ℕ → Type 0) (joined : List ℕ → ℕ → List ℕ) (choices : List ℕ) (map : RotationSystem) (residue : List ℕ) : Type 0 where
  pub prefix : List ℕ
  pub free : ℕ
  pub choices_are : choices ≡ prefix ++ free ∷ []
  pub valid : IsValidList prefix prefixes
  pub few : free < 2
  pub word : List ℕ
  pub rest : List ℕ
  pub is_made : makes prefix word rest
  pub old_plant : ℕ
  pub closed : IsClosedAnew word free map old_plant
  pub residue_is : residue ≡ joined rest old_plant

-- of each of these degrees as many nodes as its pair says, and no others
pub record HasNodes (word : List ℕ) (pairs : List (ℕ × ℕ)) : Type 0 where
  pub counts : (k : ℕ) → k < length pairs → nodes_of word (pair_at pairs k).0 ≡ (pair_at pairs k).1
  pub others : (degree : ℕ) → ((k : ℕ) → k < length pairs → (pair_at pairs k).0 ≡ degree → ⊥) → nodes_of word degree ≡ 0

-- what a prefix makes: a blossoming tree with these nodes, and a valid rest
pub record IsMade (pairs : List (ℕ × ℕ)) (rests word rest : List ℕ) : Type 0 where
  pub blossoming : IsBlossoming word
  pub nodes : HasNodes word pairs
  pub valid : IsValidList rest rests

-- a valid prefix that makes this tree and this rest
pub record IsPrefixOf (prefixes : List ℕ) (makes : List ℕ → List ℕ → List ℕ → Type 0) (prefix word rest : List ℕ) : Type 0 where
  pub valid : IsValidList prefix prefixes
  pub is_made : makes prefix word rest
