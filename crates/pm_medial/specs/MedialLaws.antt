-- The laws of medial structures.
use Rattle.std.specs.Prelude.{◌≡◌, ◌↔◌, ℕ, ◌+◌, ◌*◌, ◌<◌, length, Result, Err}
use Rattle.pm_map.specs.Structure.{Structure, IsStructure, IsConnected, Same}
use Rattle.pm_map.specs.Plane.{IsPlane, vertices, edges, faces}
use Rattle.pm_map.specs.Classes.{IsQuartic}
use Rattle.pm_map.specs.Rotation.{RotationSystem, structure_of, IsRootedMap}
use Rattle.pm_map.specs.declared.rooted_map.RootedMap.{RootedMap}
use Rattle.pm_medial.specs.declared.medials.MedialRefusal.{MedialRefusal}
use Rattle.pm_medial.specs.declared.medials.MedialRefusal.TheVariants.{Memory}
use Rattle.pm_medial.specs.Medial.{IsMedialOf, IsMedialMap, IsUnmedialOf, IsMedialAnswer}

-- the medial structure of a plane structure with a dart is quartic, and so plane; its size is the number of edges
abbrev pub MedialIsQuartic : Type 0
MedialIsQuartic = (s medial : Structure) → IsPlane s → 0 < s.darts → IsMedialOf s medial → IsQuartic medial (edges s)

-- it has a vertex for each edge, twice as many edges, and a face for each vertex and each face
pub record AreMedialCounts (s medial : Structure) : Type 0 where
  pub vertices_are : vertices medial ≡ edges s
  pub edges_are : edges medial ≡ 2 * edges s
  pub faces_are : faces medial ≡ vertices s + faces s

abbrev pub MedialCounts : Type 0
MedialCounts = (s medial : Structure) → IsPlane s → 0 < s.darts → IsMedialOf s medial → AreMedialCounts s medial

-- two connected structures are the same exactly where their medial structures are
abbrev pub MedialsTell : Type 0
MedialsTell =
    (a b a_medial b_medial : Structure) → IsStructure a → IsStructure b → IsConnected a → IsMedialOf a a_medial → IsMedialOf b b_medial
    → (Same a b ↔ Same a_medial b_medial)

-- a map has one answer, but for want of memory
abbrev pub MedialHasOneAnswer : Type 0
MedialHasOneAnswer =
    (map : RotationSystem) (first second : Result RootedMap MedialRefusal) → IsRootedMap map → IsMedialAnswer map first → IsMedialAnswer map second
    → (first ≡ Err Memory → ⊥) → (second ≡ Err Memory → ⊥) → first ≡ second

-- an unmedial of the medial map of a map is the same as the map
abbrev pub UnmedialOfMedialIsSame : Type 0
UnmedialOfMedialIsSame =
    (map medial again : RotationSystem) → IsRootedMap map → IsMedialMap map medial → IsUnmedialOf (structure_of medial) again → Same (structure_of map) (structure_of again)

-- the medial map of an unmedial of a map is the same as the map
abbrev pub MedialOfUnmedialIsSame : Type 0
MedialOfUnmedialIsSame =
    (map unmedial again : RotationSystem) → IsUnmedialOf (structure_of map) unmedial → IsMedialMap unmedial again → Same (structure_of map) (structure_of again)

-- each map with a dart whose vertices have degree 4 has an unmedial
abbrev pub EachQuarticHasUnmedial : Type 0
EachQuarticHasUnmedial = (map : RotationSystem) (size : ℕ) → IsRootedMap map → IsQuartic (structure_of map) size → (unmedial : RotationSystem) × IsUnmedialOf (structure_of map) unmedial

-- two maps are the same exactly where their unmedials are; so a map has one unmedial, up to the names of darts
abbrev pub UnmedialsTell : Type 0
UnmedialsTell =
    (map other unmedial other_unmedial : RotationSystem) → IsRootedMap map → IsRootedMap other → IsUnmedialOf (structure_of map) unmedial → IsUnmedialOf (structure_of other) other_unmedial
    → (Same (structure_of map) (structure_of other) ↔ Same (structure_of unmedial) (structure_of other_unmedial))

-- an unmedial has a dart for each edge of the map, and an edge for each vertex
abbrev pub UnmedialCounts : Type 0
UnmedialCounts = (map unmedial : RotationSystem) → IsRootedMap map → 0 < length map.sigma → IsUnmedialOf (structure_of map) unmedial
    → (2 * length unmedial.sigma ≡ length map.sigma) × (edges (structure_of unmedial) ≡ vertices (structure_of map))

-- only quartic maps have an unmedial
abbrev pub OnlyQuarticHaveUnmedial : Type 0
OnlyQuarticHaveUnmedial = (map unmedial : RotationSystem) → IsRootedMap map → 0 < length map.sigma → IsUnmedialOf (structure_of map) unmedial
    → IsQuartic (structure_of map) (vertices (structure_of map))
