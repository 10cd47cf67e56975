-- Two colours of the faces.
use Rattle.std.specs.Prelude.{◌≡◌, ◌↔◌, ℕ, ◌%◌, ◌<◌, Bool, true, false, not, List, length, slice_index_or, Result, Ok, Err, ⊤, Vec}
use Rattle.std.specs.Global.{Global}
use Rattle.pm_perm.specs.Least.{IsLeast}
use Rattle.pm_map.specs.Structure.{Structure, face_next}
use Rattle.pm_map.specs.Rotation.{RotationSystem, structure_of}
use Rattle.pm_map.specs.CycleSize.{IsCycleSize}
use Rattle.pm_medial.specs.declared.colours.ColourRefusal.{ColourRefusal}
use Rattle.pm_medial.specs.declared.colours.ColourRefusal.TheVariants.{Memory, OddDegree}
use Rattle.pm_map.specs.Plane.{IsPlane}
use Rattle.pm_distances.specs.AcrossEdges.{AllDegreesAreEven}

-- a colour for each dart, the same around each face and another one across each edge; that of the root's face is true
pub record IsColouring (s : Structure) (colour : ℕ → Bool) : Type 0 where
  pub root : 0 < s.darts → colour s.root ≡ true
  pub around : (d : ℕ) → d < s.darts → colour (face_next s d) ≡ colour d
  pub across : (d : ℕ) → d < s.darts → colour (s.twin d) ≡ not (colour d)

-- the faces of a plane structure have two colours exactly where all degrees are even
abbrev pub FacesHaveTwoColours : Type 0
FacesHaveTwoColours = (s : Structure) → IsPlane s → ((colour : ℕ → Bool) × IsColouring s colour) ↔ AllDegreesAreEven s

-- a plane structure has no two such colourings
abbrev pub ColouringIsUnique : Type 0
ColouringIsUnique = (s : Structure) (one other : ℕ → Bool) → IsPlane s → IsColouring s one → IsColouring s other → (d : ℕ) → d < s.darts → one d ≡ other d

-- the vertex of the dart has an even degree
pub record HasEvenDegree (s : Structure) (d : ℕ) : Type 0 where
  pub degree : ℕ
  pub counted : IsCycleSize s.next d degree
  pub even : degree % 2 ≡ 0

-- the least dart whose vertex has an odd degree
abbrev pub IsLeastOdd : Structure → ℕ → Type 0
IsLeastOdd s d = IsLeast s.darts (HasEvenDegree s) (λ e. HasEvenDegree s e → ⊥) d

-- an entry for each dart, the colour of its face
pub record AreColours (map : RotationSystem) (colours : List Bool) : Type 0 where
  pub as_long : length colours ≡ length map.sigma
  pub colouring : IsColouring (structure_of map) (λ d. slice_index_or colours d false)

-- The answer to a map: the colours of its faces, or the least dart whose vertex has an odd degree. Want of memory may come
-- at any map.
abbrev pub IsColourAnswer : RotationSystem → Result (Vec Bool Global) ColourRefusal → Type 0
IsColourAnswer map (Ok colours) = AreColours map colours.items
IsColourAnswer map (Err (OddDegree dart)) = IsLeastOdd (structure_of map) dart
IsColourAnswer map (Err Memory) = ⊤
