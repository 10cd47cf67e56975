-- Which map and which residue a list of choices gives: maps with vertices of given even degrees (Schaeffer 1997).
use Rattle.std.specs.Prelude.{◌≡◌, ℕ, suc, List, [], ◌∷◌, ◌++◌, take, drop, length, Result, Ok, Err, ⊤}
use Rattle.pm_limits.specs.declared.TheConstants.{MAX_DEGREE}
use Rattle.pm_trees.specs.Pairs.{IsProfile, edges_of}
use Rattle.pm_map.specs.Rotation.{RotationSystem, structure_of}
use Rattle.pm_map.specs.Classes.{IsEulerian}
use Rattle.pm_map.specs.ClassRules.{IsLeastOther}
use Rattle.pm_map.specs.declared.admitted.Degrees.TheVariants.{EvenUpTo}
use Rattle.pm_map.specs.declared.class_refusal.ClassRefusal.{ClassRefusal}
use Rattle.pm_map.specs.declared.class_refusal.ClassRefusal.TheVariants.{Memory, Empty, TooMany, Vertex, Face, Loop, Double}
use Rattle.pm_euler.specs.Bounds.{eulerian_prefixes}
use Rattle.pm_objects.specs.Codes.{codes_by_range}
use Rattle.pm_objects.specs.Preorder.{ArePreordered}
use Rattle.pm_euler.specs.Objects.{IsPlantedPlane, halves_of, ranges_of}
use Rattle.pm_euler.specs.Sampled.{SamplesByTree}

-- for each degree the arrangement code of its objects, as they come, and then that of the leaf objects
abbrev pub codes_by_degree : List (ℕ × ℕ) → List ℕ → List ℕ
codes_by_degree pairs objects = codes_by_range (ranges_of pairs) objects

-- The first numbers are the code of an arrangement of the objects, which read from its good start is the preorder of a plane
-- tree. The next ones are the patterns of the node objects. The rest is the start and the codes by degree.
pub record MakesEulerian (pairs : List (ℕ × ℕ)) (prefix word rest : List ℕ) : Type 0 where
  pub start : ℕ
  pub objects : List ℕ
  pub are_preordered : ArePreordered 1 (halves_of pairs) (take (suc (edges_of pairs)) prefix) start objects
  pub is_planted : IsPlantedPlane (halves_of pairs) (drop (suc (edges_of pairs)) prefix) objects word
  pub rest_is : rest ≡ start ∷ codes_by_degree pairs objects

-- the residue is the rest, and the number of the old plant
abbrev pub SamplesEulerian : List (ℕ × ℕ) → List ℕ → RotationSystem → List ℕ → Type 0
SamplesEulerian pairs choices map residue = SamplesByTree (eulerian_prefixes pairs) (MakesEulerian pairs) (λ rest old_plant. rest ++ old_plant ∷ []) choices map residue

-- What a map is answered that should have vertices of even degrees: how many it has of which degree, or the first rule
-- that it breaks. Want of memory may come at any map.
abbrev pub IsEulerianAnswer : RotationSystem → Result (List (ℕ × ℕ)) ClassRefusal → Type 0
IsEulerianAnswer m (Ok pairs) = IsProfile pairs × IsEulerian (structure_of m) pairs
IsEulerianAnswer m (Err Empty) = length m.sigma ≡ 0
IsEulerianAnswer m (Err (Vertex dart)) = IsLeastOther (structure_of m) (EvenUpTo MAX_DEGREE) dart
IsEulerianAnswer m (Err Memory) = ⊤
IsEulerianAnswer m (Err (TooMany edges)) = ⊥
IsEulerianAnswer m (Err (Face dart)) = ⊥
IsEulerianAnswer m (Err (Loop dart)) = ⊥
IsEulerianAnswer m (Err (Double dart)) = ⊥
