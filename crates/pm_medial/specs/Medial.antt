-- The medial structure of a structure: a vertex of degree 4 for each edge; two edges that follow each other around a vertex
-- are joined (Tutte 1963).
use Rattle.std.specs.Prelude.{◌≡◌, ℕ, suc, ◌*◌, ◌<◌, ◌≤◌, Result, Ok, Err, ⊤}
use Rattle.pm_limits.specs.declared.TheConstants.{MAX_EDGES}
use Rattle.pm_map.specs.Structure.{Structure, Same}
use Rattle.pm_map.specs.Plane.{edges}
use Rattle.pm_map.specs.Rotation.{RotationSystem, structure_of, IsRootedMap}
use Rattle.pm_map.specs.declared.rooted_map.RootedMap.{RootedMap}
use Rattle.pm_medial.specs.declared.medials.MedialRefusal.{MedialRefusal}
use Rattle.pm_medial.specs.declared.medials.MedialRefusal.TheVariants.{Memory, TooMany}
use Rattle.pm_map.specs.declared.admitted.Degrees.TheVariants.{Exactly}
use Rattle.pm_map.specs.ClassRules.{IsLeastOther}
use Rattle.pm_medial.specs.declared.unmedials.UnmedialRefusal.{UnmedialRefusal}
use Rattle.pm_medial.specs.declared.unmedials.UnmedialRefusal.TheVariants as without

-- Each dart d gives two darts, its plus and its minus. Around the vertex of an edge stand the plus of d, the minus of d, the
-- plus of the twin of d and the minus of that twin. The twin of the plus of d is the minus of the dart after d. The root is
-- the plus of the root. The plus of d is named 2d, and the minus of the dart after d, its twin, 2d+1.
pub record IsMedialOf (s medial : Structure) : Type 0 where
  pub darts : medial.darts ≡ 2 * s.darts
  pub after_plus : (d : ℕ) → d < s.darts → medial.next (2 * s.next d) ≡ suc (2 * d)
  pub after_minus : (d : ℕ) → d < s.darts → medial.next (suc (2 * d)) ≡ 2 * s.twin (s.next d)
  pub twin_of_plus : (d : ℕ) → d < s.darts → medial.twin (2 * d) ≡ suc (2 * d)
  pub twin_of_minus : (d : ℕ) → d < s.darts → medial.twin (suc (2 * d)) ≡ 2 * d
  pub root : medial.root ≡ 2 * s.root

-- the map has the medial structure of the other
abbrev pub IsMedialMap : RotationSystem → RotationSystem → Type 0
IsMedialMap map medial = IsMedialOf (structure_of map) (structure_of medial)

-- twice the edges of the map are so many, and more than the limit
pub record HasTooManyEdges (map : RotationSystem) (twice : ℕ) : Type 0 where
  pub many : MAX_EDGES < twice
  pub counted : twice ≡ 2 * edges (structure_of map)

-- twice the edges of the map are within the limit, and this is its medial map
pub record HasMedialMap (map medial : RotationSystem) : Type 0 where
  pub few : 2 * edges (structure_of map) ≤ MAX_EDGES
  pub is_medial : IsMedialMap map medial

-- the answer to a map: its medial map, or that this would have too many edges; want of memory may come at any map
abbrev pub IsMedialAnswer : RotationSystem → Result RootedMap MedialRefusal → Type 0
IsMedialAnswer map (Ok medial) = HasMedialMap map medial
IsMedialAnswer map (Err (TooMany twice)) = HasTooManyEdges map twice
IsMedialAnswer map (Err Memory) = ⊤

-- an unmedial of a structure: a rooted map whose medial structure is the same as this one
pub record IsUnmedialOf (s : Structure) (map : RotationSystem) : Type 0 where
  pub rooted : IsRootedMap map
  pub medial : Structure
  pub is_medial : IsMedialOf (structure_of map) medial
  pub is_same : Same s medial

-- the answer to a map: an unmedial, or the least dart whose vertex hasn't degree 4; want of memory may come at any map
abbrev pub IsUnmedialAnswer : RotationSystem → Result RootedMap UnmedialRefusal → Type 0
IsUnmedialAnswer map (Ok unmedial) = IsUnmedialOf (structure_of map) unmedial
IsUnmedialAnswer map (Err (without.NotQuartic dart)) = IsLeastOther (structure_of map) (Exactly 4) dart
IsUnmedialAnswer map (Err without.Memory) = ⊤
