-- Which map and which residue a list of choices gives: maps with faces of given even degrees.
use Rattle.std.specs.Prelude.{◌≡◌, ℕ, List, length, Result, Ok, Err, ⊤}
use Rattle.pm_limits.specs.declared.TheConstants.{MAX_DEGREE}
use Rattle.pm_trees.specs.Pairs.{IsProfile}
use Rattle.pm_map.specs.Structure.{Structure, dual}
use Rattle.pm_map.specs.Rotation.{RotationSystem, structure_of}
use Rattle.pm_map.specs.Classes.{IsBipartite}
use Rattle.pm_map.specs.ClassRules.{IsLeastOther}
use Rattle.pm_map.specs.declared.admitted.Degrees.TheVariants.{EvenUpTo}
use Rattle.pm_map.specs.declared.class_refusal.ClassRefusal.{ClassRefusal}
use Rattle.pm_map.specs.declared.class_refusal.ClassRefusal.TheVariants.{Memory, Empty, TooMany, Vertex, Face, Loop, Double}
use Rattle.pm_class.specs.Behind.{SamplesBehind}
use Rattle.pm_euler.specs.Eulerian.{SamplesEulerian}

-- the second structure is the dual of the first
abbrev pub IsDualStructure : Structure → Structure → Type 0
IsDualStructure s there = there ≡ dual s

-- The choices give an eulerian map and this residue. The map is a canonical one whose dual is the same as that map, so it is
-- the canonical map of its dual.
abbrev pub SamplesBipartite : List (ℕ × ℕ) → List ℕ → RotationSystem → List ℕ → Type 0
SamplesBipartite pairs = SamplesBehind IsDualStructure (SamplesEulerian pairs)

-- What a map is answered that should have faces of even degrees: how many it has of which degree, or the first rule that it
-- breaks. Want of memory may come at any map.
abbrev pub IsBipartiteAnswer : RotationSystem → Result (List (ℕ × ℕ)) ClassRefusal → Type 0
IsBipartiteAnswer m (Ok pairs) = IsProfile pairs × IsBipartite (structure_of m) pairs
IsBipartiteAnswer m (Err Empty) = length m.sigma ≡ 0
IsBipartiteAnswer m (Err (Face dart)) = IsLeastOther (dual (structure_of m)) (EvenUpTo MAX_DEGREE) dart
IsBipartiteAnswer m (Err Memory) = ⊤
IsBipartiteAnswer m (Err (TooMany edges)) = ⊥
IsBipartiteAnswer m (Err (Vertex dart)) = ⊥
IsBipartiteAnswer m (Err (Loop dart)) = ⊥
IsBipartiteAnswer m (Err (Double dart)) = ⊥
