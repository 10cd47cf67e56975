-- Classes behind classes: the maps of a class and those of a class behind it are one to one, up to the names of darts, by
-- an image of structures. So what is proved of lists of choices for the class behind holds for the class.
use Rattle.std.specs.Prelude.{◌↔◌, ℕ, List}
use Rattle.pm_lists.specs.Valid.{IsValidList}
use Rattle.pm_map.specs.Structure.{Structure, Same}
use Rattle.pm_map.specs.Rotation.{RotationSystem, structure_of, IsRootedMap}
use Rattle.pm_map.specs.Canonical.{IsCanonical, IsCanonicalOf}
use Rattle.pm_class.specs.ClassLaws.{IsKeptByRenumbering}

-- the map behind is the same as an image of the map
pub record IsSameAsImage (image : Structure → Structure → Type 0) (map behind : RotationSystem) : Type 0 where
  pub there : Structure
  pub is_image : image (structure_of map) there
  pub is_same : Same (structure_of behind) there

-- the class has a rooted map of which this holds
pub record HasMapWhere (class holds : RotationSystem → Type 0) : Type 0 where
  pub map : RotationSystem
  pub rooted : IsRootedMap map
  pub in_class : class map
  pub is : holds map

-- maps are the same exactly where their images are
abbrev pub ImagesTell : (Structure → Structure → Type 0) → Type 0
ImagesTell image =
    (map other : RotationSystem) (map_there other_there : Structure) → IsRootedMap map → IsRootedMap other
    → image (structure_of map) map_there → image (structure_of other) other_there → (Same (structure_of map) (structure_of other) ↔ Same map_there other_there)

-- Each map of the class has one of the class behind that is the same as its image, and each of those has such a map. Images
-- tell what is the same, and the names of darts don't matter to the class.
pub record AreExchanged (image : Structure → Structure → Type 0) (behind class : RotationSystem → Type 0) : Type 0 where
  pub to_behind : (map : RotationSystem) → IsRootedMap map → class map → HasMapWhere behind (IsSameAsImage image map)
  pub from_behind : (other : RotationSystem) → IsRootedMap other → behind other → HasMapWhere class (λ map. IsSameAsImage image map other)
  pub tells : ImagesTell image
  pub kept : IsKeptByRenumbering class

-- The choices give a map of the class behind and this residue; the map is a canonical one whose image is the same as that
-- map.
pub record SamplesBehind (image : Structure → Structure → Type 0) (samples : List ℕ → RotationSystem → List ℕ → Type 0) (choices : List ℕ) (map : RotationSystem) (residue : List ℕ) : Type 0 where
  pub behind : RotationSystem
  pub given : samples choices behind residue
  pub rooted : IsRootedMap map
  pub canonical : IsCanonical map
  pub imaged : IsSameAsImage image map behind

-- the choices are valid, and give the canonical map of the map and the residue
pub record AreChoicesOf (bounds : List ℕ) (samples : List ℕ → RotationSystem → List ℕ → Type 0) (map : RotationSystem) (residue choices : List ℕ) : Type 0 where
  pub canonical : RotationSystem
  pub is_canonical : IsCanonicalOf map canonical
  pub valid : IsValidList choices bounds
  pub given : samples choices canonical residue
