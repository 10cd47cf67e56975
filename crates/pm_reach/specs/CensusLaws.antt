-- The laws of a census. The parameters are the ghost members of a class.
use Rattle.std.specs.Prelude.{◌≡◌, ◌⊎◌, ℕ, List, [], ◌∷◌, ⊤}
use Rattle.std.specs.List.{sum}
use Rattle.std.specs.Map.{values_of}
use Rattle.pm_map.specs.Rotation.{RotationSystem}
use Rattle.pm_class.specs.OneToOne.{IsMember}
use Rattle.pm_reach.specs.Census.{IsCensus, number_of, product}

-- a law: a class and a size have a census
abbrev pub ClassHasCensus : {Size : Type 0} → (Size → Type 0) → (Size → List ℕ) → (Size → List ℕ → RotationSystem → List ℕ → Type 0) → Type 0
ClassHasCensus {Size} is_size choice_limits samples =
    (size : Size) → is_size size → (entries : List (RotationSystem × ℕ)) × IsCensus (choice_limits size) (samples size) entries

-- a law: and no other
abbrev pub ClassHasOneCensus : {Size : Type 0} → (Size → Type 0) → (Size → List ℕ) → (Size → List ℕ → RotationSystem → List ℕ → Type 0) → Type 0
ClassHasOneCensus {Size} is_size choice_limits samples =
    (size : Size) (one other : List (RotationSystem × ℕ)) → is_size size → IsCensus (choice_limits size) (samples size) one
    → IsCensus (choice_limits size) (samples size) other → one ≡ other

-- the map stands in one of the entries
abbrev pub Stands : RotationSystem → List (RotationSystem × ℕ) → Type 0
Stands map [] = ⊥
Stands map (entry ∷ entries) = (map ≡ entry.0) ⊎ Stands map entries

-- no map stands in two entries
abbrev pub AreApart : List (RotationSystem × ℕ) → Type 0
AreApart [] = ⊤
AreApart (entry ∷ entries) = (Stands entry.0 entries → ⊥) × AreApart entries

-- each canonical map of the class and size stands in one entry, and no other map does
pub record HasEachMapOnce (has : RotationSystem → Type 0) (entries : List (RotationSystem × ℕ)) : Type 0 where
  pub once : AreApart entries
  pub each : (map : RotationSystem) → IsMember has map → Stands map entries
  pub only : (map : RotationSystem) → Stands map entries → IsMember has map

-- a law: a census has each map of the class and size once, and no other
abbrev pub CensusHasEachMapOnce : {Size : Type 0} → (Size → Type 0) → (Size → List ℕ) → (Size → RotationSystem → Type 0) → (Size → List ℕ → RotationSystem → List ℕ → Type 0) → Type 0
CensusHasEachMapOnce {Size} is_size choice_limits has samples =
    (size : Size) (entries : List (RotationSystem × ℕ)) → is_size size → IsCensus (choice_limits size) (samples size) entries → HasEachMapOnce (has size) entries

-- a law: the number of each canonical map of the class and size is the product of the residue bounds
abbrev pub CensusCountsResidues : {Size : Type 0} → (Size → Type 0) → (Size → List ℕ) → (Size → List ℕ) → (Size → RotationSystem → Type 0) → (Size → List ℕ → RotationSystem → List ℕ → Type 0) → Type 0
CensusCountsResidues {Size} is_size choice_limits residue_limits has samples =
    (size : Size) (entries : List (RotationSystem × ℕ)) (map : RotationSystem) → is_size size → IsCensus (choice_limits size) (samples size) entries
    → IsMember (has size) map → number_of map entries ≡ product (residue_limits size)

-- a law: the numbers add up to the number of the valid lists, which is the product of the choice bounds
abbrev pub CensusCountsLists : {Size : Type 0} → (Size → Type 0) → (Size → List ℕ) → (Size → List ℕ → RotationSystem → List ℕ → Type 0) → Type 0
CensusCountsLists {Size} is_size choice_limits samples =
    (size : Size) (entries : List (RotationSystem × ℕ)) → is_size size → IsCensus (choice_limits size) (samples size) entries
    → sum (values_of entries) ≡ product (choice_limits size)
