-- What canonical maps are for: a rooted map has no two, and the maps that are the same are those with equal ones.
use Rattle.std.specs.Prelude.{◌≡◌, ◌↔◌, ◌*◌, ◌≤◌}
use Rattle.pm_limits.specs.declared.TheConstants.{MAX_EDGES}
use Rattle.pm_map.specs.Structure.{Structure, Same}
use Rattle.pm_map.specs.Plane.{IsPlane}
use Rattle.pm_map.specs.Rotation.{RotationSystem, structure_of, IsRootedMap}
use Rattle.pm_map.specs.Canonical.{IsCanonicalForm, IsCanonicalOf}

-- the canonical map of a rooted map is a rooted map
abbrev pub CanonicalIsRooted : Type 0
CanonicalIsRooted = (map canonical : RotationSystem) → IsRootedMap map → IsCanonicalOf map canonical → IsRootedMap canonical

-- a rooted map has no two canonical maps
abbrev pub CanonicalIsUnique : Type 0
CanonicalIsUnique = (map one other : RotationSystem) → IsRootedMap map → IsCanonicalOf map one → IsCanonicalOf map other → one ≡ other

-- two rooted maps are the same exactly where their canonical maps are equal
abbrev pub CanonicalTellsMaps : Type 0
CanonicalTellsMaps = (a b canonical_a canonical_b : RotationSystem) → IsRootedMap a → IsRootedMap b
    → IsCanonicalOf a canonical_a → IsCanonicalOf b canonical_b
    → (Same (structure_of a) (structure_of b) ↔ (canonical_a ≡ canonical_b))

-- The same holds of every plane structure with no more edges than a map may have, whatever its twins.
pub record IsSmallPlane (s : Structure) : Type 0 where
  pub plane : IsPlane s
  pub few : s.darts ≤ 2 * MAX_EDGES

abbrev pub FormIsRooted : Type 0
FormIsRooted = (s : Structure) (canonical : RotationSystem) → IsSmallPlane s → IsCanonicalForm s canonical → IsRootedMap canonical

abbrev pub FormIsUnique : Type 0
FormIsUnique = (s : Structure) (one other : RotationSystem) → IsSmallPlane s → IsCanonicalForm s one → IsCanonicalForm s other → one ≡ other

abbrev pub FormTellsStructures : Type 0
FormTellsStructures = (a b : Structure) (canonical_a canonical_b : RotationSystem) → IsSmallPlane a → IsSmallPlane b
    → IsCanonicalForm a canonical_a → IsCanonicalForm b canonical_b → (Same a b ↔ (canonical_a ≡ canonical_b))
