-- A plane structure has one canonical map, and the structures that are the same are those with equal canonical maps.
use Rattle.std.proofs.Common.{◌≡◌, ◌%◌, length, sym, subst}
use Rattle.pm_map.specs.Structure.{Structure, IsStructure, Same}
use Rattle.pm_map.specs.Rotation.{RotationSystem, structure_of, IsRootedMap}
use Rattle.pm_map.specs.Canonical.{IsCanonicalForm}
use Rattle.pm_map.specs.CanonicalLaws.{CanonicalIsRooted, CanonicalIsUnique, CanonicalTellsMaps, IsSmallPlane, FormIsRooted, FormIsUnique, FormTellsStructures}
use Rattle.pm_map.proofs.CarriedStructure.{structure_carried, rooted_carried, rooted_is_plane}
use Rattle.pm_map.proofs.CanonicalNames.{same_canonical_maps_are_equal}
use Rattle.pm_map.proofs.SameMaps.{same_as_itself, same_symmetric, same_transitive}
use Rattle.pm_map.proofs.TwinLemmas.{even_darts}

-- the canonical map of a plane structure is a rooted map
pub form_is_rooted : FormIsRooted
form_is_rooted s canonical small is =
    let none = λ (e : length canonical.sigma ≡ 0). is.is_canonical.root in
    let even = even_darts canonical (structure_carried is.is_same.0 s (structure_of canonical) small.plane.structure is.is_same.1 none) in
    rooted_carried is.is_same.0 s canonical small.plane (subst (λ n. n % 2 ≡ 0) (sym is.is_same.1.darts) even) small.few is.is_same.1 none

-- what is the same as the structure is the same as its canonical map
canonical_same : (s other : Structure) (canonical : RotationSystem) → IsStructure s → IsCanonicalForm s canonical → Same s other → Same (structure_of canonical) other
canonical_same s other canonical structure is same =
    same_transitive (structure_of canonical) s other (same_symmetric s (structure_of canonical) structure is.is_same) same

-- two structures are the same exactly where their canonical maps are equal
pub form_tells_structures : FormTellsStructures
form_tells_structures a b canonical_a canonical_b small_a small_b is_a is_b = (
  λ same. same_canonical_maps_are_equal canonical_a canonical_b (form_is_rooted a canonical_a small_a is_a) is_a.is_canonical is_b.is_canonical
      (canonical_same a (structure_of canonical_b) canonical_a small_a.plane.structure is_a (same_transitive a b (structure_of canonical_b) same is_b.is_same)),
  λ equal. same_transitive a (structure_of canonical_b) b (subst (λ c. Same a (structure_of c)) equal is_a.is_same)
      (same_symmetric b (structure_of canonical_b) small_b.plane.structure is_b.is_same),
)

-- a plane structure has no two canonical maps
pub form_is_unique : FormIsUnique
form_is_unique s one other small is_one is_other = (form_tells_structures s s one other small small is_one is_other).0 (same_as_itself s)

rooted_is_small : (m : RotationSystem) → IsRootedMap m → IsSmallPlane (structure_of m)
rooted_is_small m rooted = record { plane = rooted_is_plane m rooted; few = rooted.few }

-- the same of rooted maps
pub canonical_map_is_rooted : CanonicalIsRooted
canonical_map_is_rooted map canonical valid is = form_is_rooted (structure_of map) canonical (rooted_is_small map valid) is

pub canonical_map_is_unique : CanonicalIsUnique
canonical_map_is_unique map one other valid is_one is_other = form_is_unique (structure_of map) one other (rooted_is_small map valid) is_one is_other

pub canonical_maps_tell : CanonicalTellsMaps
canonical_maps_tell a b canonical_a canonical_b valid_a valid_b is_a is_b =
    form_tells_structures (structure_of a) (structure_of b) canonical_a canonical_b (rooted_is_small a valid_a) (rooted_is_small b valid_b) is_a is_b
