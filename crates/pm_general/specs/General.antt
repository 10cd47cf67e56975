-- Which map and which residue a list of choices gives: maps by their number of edges.
use Rattle.std.specs.Prelude.{◌≡◌, ℕ, zero, suc, ◌/◌, ◌<◌, ◌≤◌, List, [], ◌∷◌, Result, Ok, Err, ⊤}
use Rattle.pm_limits.specs.declared.TheConstants.{MAX_EDGES}
use Rattle.pm_map.specs.Plane.{edges}
use Rattle.pm_map.specs.Rotation.{RotationSystem, structure_of}
use Rattle.pm_map.specs.Classes.{IsGeneral}
use Rattle.pm_map.specs.declared.class_refusal.ClassRefusal.{ClassRefusal}
use Rattle.pm_map.specs.declared.class_refusal.ClassRefusal.TheVariants.{Memory, Empty, TooMany, Vertex, Face, Loop, Double}
use Rattle.pm_class.specs.Behind.{SamplesBehind}
use Rattle.pm_medial.specs.Medial.{IsMedialOf}
use Rattle.pm_euler.specs.Quartic.{SamplesQuartic}

-- the most edges of a general map: its medial map has twice as many, and no more than a map may have
abbrev pub most_general_edges : ℕ
most_general_edges = MAX_EDGES / 2

-- the sizes: numbers of edges
pub record IsGeneralSize (n : ℕ) : Type 0 where
  pub few : n ≤ most_general_edges

-- the map without darts, which has one vertex and one face
abbrev pub nothing : RotationSystem
nothing = record { sigma = []; root = 0 }

-- the one choice of size 0 is below 2; it gives the map without darts, and goes into the residue, before a 0
pub record SamplesNothing (choices : List ℕ) (map : RotationSystem) (residue : List ℕ) : Type 0 where
  pub choice : ℕ
  pub low : choice < 2
  pub choices_are : choices ≡ choice ∷ []
  pub map_is : map ≡ nothing
  pub residue_is : residue ≡ choice ∷ 0 ∷ []

-- At size 0 the map without darts. At others the choices give a quartic map and this residue; the map is a canonical one
-- whose medial map is the same as that quartic map, so it is the canonical map of its unmedial (Tutte 1963).
abbrev pub SamplesGeneral : ℕ → List ℕ → RotationSystem → List ℕ → Type 0
SamplesGeneral zero = SamplesNothing
SamplesGeneral (suc n) = SamplesBehind IsMedialOf (SamplesQuartic (suc n))

-- the map has so many edges, more than a general map may have: more than half of what a map may have
pub record HasMoreThanHalf (map : RotationSystem) (many : ℕ) : Type 0 where
  pub counted : many ≡ edges (structure_of map)
  pub more : most_general_edges < many

-- What a map is answered that should be of a size: its number of edges, or that there are too many. Want of memory may come
-- at any map.
abbrev pub IsGeneralAnswer : RotationSystem → Result ℕ ClassRefusal → Type 0
IsGeneralAnswer m (Ok n) = IsGeneralSize n × IsGeneral (structure_of m) n
IsGeneralAnswer m (Err (TooMany many)) = HasMoreThanHalf m many
IsGeneralAnswer m (Err Memory) = ⊤
IsGeneralAnswer m (Err Empty) = ⊥
IsGeneralAnswer m (Err (Vertex dart)) = ⊥
IsGeneralAnswer m (Err (Face dart)) = ⊥
IsGeneralAnswer m (Err (Loop dart)) = ⊥
IsGeneralAnswer m (Err (Double dart)) = ⊥
