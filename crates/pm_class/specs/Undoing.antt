-- What follows for each class: sampling and unsampling undo each other, and the lists of a map are one to one with the valid
-- residues. The parameters are the ghost members of the class.
use Rattle.std.specs.Prelude.{◌≡◌, ℕ, List, Result, Ok}
use Rattle.pm_lists.specs.Valid.{IsValidList}
use Rattle.pm_map.specs.Rotation.{RotationSystem, IsRootedMap}
use Rattle.pm_map.specs.Canonical.{IsCanonicalOf}
use Rattle.pm_map.specs.declared.class_refusal.ClassRefusal.{ClassRefusal}
use Rattle.pm_class.specs.declared.sample.Sample.{Sample}
use Rattle.pm_class.specs.OneToOne.{IsMember, IsGiven}
use Rattle.pm_class.specs.Sampling.{IsSampled, IsSampledUnnamed}
use Rattle.pm_class.specs.Unsampling.{IsUnsampled}

-- a law: what is unsampled from a sample are the choices that gave it
abbrev pub UnsamplingUndoes : {Size : Type 0} → (Size → Type 0) → (Size → List ℕ) → (Size → List ℕ) → (Size → RotationSystem → Type 0)
    → (RotationSystem → Result Size ClassRefusal → Type 0) → (Size → List ℕ → RotationSystem → List ℕ → Type 0) → Type 0
UnsamplingUndoes {Size} is_size choice_limits residue_limits has answers samples =
    (size : Size) (choices found : List ℕ) (sample : Sample) → is_size size → IsSampled (choice_limits size) (residue_limits size) (has size) (samples size choices) choices sample
    → IsUnsampled choice_limits residue_limits samples answers sample.map sample.residue found → found ≡ choices

-- a law: so it is where the darts of the sample have any names
abbrev pub UnsamplingUndoesUnnamed : {Size : Type 0} → (Size → Type 0) → (Size → List ℕ) → (Size → List ℕ) → (Size → RotationSystem → Type 0)
    → (RotationSystem → Result Size ClassRefusal → Type 0) → (Size → List ℕ → RotationSystem → List ℕ → Type 0) → Type 0
UnsamplingUndoesUnnamed {Size} is_size choice_limits residue_limits has answers samples =
    (size : Size) (choices found : List ℕ) (sample : Sample) → is_size size → IsSampledUnnamed (choice_limits size) (residue_limits size) (has size) (samples size choices) choices sample
    → IsUnsampled choice_limits residue_limits samples answers sample.map sample.residue found → found ≡ choices

-- a law: what the unsampled choices give is the map, in its canonical numbering, and the residue
abbrev pub SamplingUndoes : {Size : Type 0} → (Size → Type 0) → (Size → List ℕ) → (Size → List ℕ) → (Size → RotationSystem → Type 0)
    → (RotationSystem → Result Size ClassRefusal → Type 0) → (Size → List ℕ → RotationSystem → List ℕ → Type 0) → Type 0
SamplingUndoes {Size} is_size choice_limits residue_limits has answers samples =
    (size : Size) (map : RotationSystem) (residue choices : List ℕ) (sample : Sample) → IsRootedMap map → answers map (Ok size)
    → IsUnsampled choice_limits residue_limits samples answers map residue choices → IsSampled (choice_limits size) (residue_limits size) (has size) (samples size choices) choices sample
    → IsCanonicalOf map sample.map × (sample.residue ≡ residue)

-- a law: each map of the class, whatever the names of its darts, comes with each valid residue from some valid list
abbrev pub EachMapIsUnsampled : {Size : Type 0} → (Size → Type 0) → (Size → List ℕ) → (Size → List ℕ) → (Size → RotationSystem → Type 0)
    → (RotationSystem → Result Size ClassRefusal → Type 0) → (Size → List ℕ → RotationSystem → List ℕ → Type 0) → Type 0
EachMapIsUnsampled {Size} is_size choice_limits residue_limits has answers samples =
    (size : Size) (map : RotationSystem) (residue : List ℕ) → is_size size → IsRootedMap map → has size map → IsValidList residue (residue_limits size)
    → (choices : List ℕ) × IsUnsampled choice_limits residue_limits samples answers map residue choices

-- The lists that give a map are one to one with the valid residues. So each map of a size comes from as many lists.
pub record AreListsOfMap (residues : List ℕ) (samples : List ℕ → RotationSystem → List ℕ → Type 0) (map : RotationSystem) : Type 0 where
  pub only : (choices residue : List ℕ) → samples choices map residue → IsValidList residue residues
  pub each : (residue : List ℕ) → IsValidList residue residues → IsGiven samples map residue
  pub one_residue : (choices one other : List ℕ) → samples choices map one → samples choices map other → one ≡ other
  pub one_list : (one other residue : List ℕ) → samples one map residue → samples other map residue → one ≡ other

-- a law: those of each map of the class
abbrev pub ListsAreResidues : {Size : Type 0} → (Size → Type 0) → (Size → List ℕ) → (Size → RotationSystem → Type 0) → (Size → List ℕ → RotationSystem → List ℕ → Type 0) → Type 0
ListsAreResidues {Size} is_size residue_limits has samples =
    (size : Size) (map : RotationSystem) → is_size size → IsMember (has size) map → AreListsOfMap (residue_limits size) (samples size) map
