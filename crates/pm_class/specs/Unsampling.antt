-- Sampling undone, for any class: the one list of choices of a map and a residue.
use Rattle.std.specs.Prelude.{◌≡◌, ℕ, List, Result, Ok, Err, ⊤}
use Rattle.pm_lists.specs.Valid.{IsValidList}
use Rattle.pm_lists.specs.Refusal.{IsRefusalOf}
use Rattle.pm_map.specs.Rotation.{RotationSystem}
use Rattle.pm_map.specs.Canonical.{IsCanonicalOf}
use Rattle.pm_map.specs.declared.class_refusal.ClassRefusal.{ClassRefusal}
use Rattle.pm_map.specs.declared.class_refusal.ClassRefusal.TheVariants.{Memory as MemoryOfClass}
use Rattle.pm_class.specs.declared.sample.UnsampleRefusal.{UnsampleRefusal}
use Rattle.pm_class.specs.declared.sample.UnsampleRefusal.TheVariants.{Memory, Class, List as NotValid}

-- The map is in the class, and the residue is valid for its size. The choices are valid for it, and give the canonical map
-- of the map and the residue.
pub record IsUnsampled {Size : Type 0} (choice_limits residue_limits : Size → List ℕ) (samples : Size → List ℕ → RotationSystem → List ℕ → Type 0) (answers : RotationSystem → Result Size ClassRefusal → Type 0) (map : RotationSystem) (residue choices : List ℕ) : Type 0 where
  pub size : Size
  pub in_class : answers map (Ok size)
  pub valid_residue : IsValidList residue (residue_limits size)
  pub canonical : RotationSystem
  pub is_canonical : IsCanonicalOf map canonical
  pub valid : IsValidList choices (choice_limits size)
  pub given : samples size choices canonical residue

-- The choices of the map and the residue; or the first rule of the class that the map breaks; or in what the residue isn't
-- valid for the map's size. Want of memory may come at any.
abbrev pub IsUnsampling : {Size : Type 0} → (Size → List ℕ) → (Size → List ℕ) → (Size → List ℕ → RotationSystem → List ℕ → Type 0) → (RotationSystem → Result Size ClassRefusal → Type 0) → RotationSystem → List ℕ → Result (List ℕ) UnsampleRefusal → Type 0
IsUnsampling choice_limits residue_limits samples answers map residue (Ok choices) =
    IsUnsampled choice_limits residue_limits samples answers map residue choices
IsUnsampling choice_limits residue_limits samples answers map residue (Err (Class refusal)) = answers map (Err refusal) × (refusal ≡ MemoryOfClass → ⊥)
IsUnsampling {Size} choice_limits residue_limits samples answers map residue (Err (NotValid refusal)) =
    (size : Size) × (answers map (Ok size) × IsRefusalOf residue (residue_limits size) refusal)
IsUnsampling choice_limits residue_limits samples answers map residue (Err Memory) = ⊤

-- a law: a map and a residue come from no two lists of choices
abbrev pub HasOneList : (List ℕ → RotationSystem → List ℕ → Type 0) → Type 0
HasOneList samples =
    (one other : List ℕ) (map : RotationSystem) (residue : List ℕ) → samples one map residue → samples other map residue → one ≡ other
