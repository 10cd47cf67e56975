-- What sampling answers, and the laws of a class of maps, for any class.
use Rattle.std.specs.Prelude.{◌≡◌, ◌↔◌, ℕ, List, Result, Ok, Err, ⊤}
use Rattle.pm_lists.specs.Valid.{IsValidList}
use Rattle.pm_lists.specs.Refusal.{IsRefusalOf}
use Rattle.pm_map.specs.Rotation.{RotationSystem, IsRootedMap}
use Rattle.pm_map.specs.Canonical.{IsCanonical, IsCanonicalOf}
use Rattle.pm_map.specs.declared.class_refusal.ClassRefusal.{ClassRefusal}
use Rattle.pm_map.specs.declared.class_refusal.ClassRefusal.TheVariants.{Memory as MemoryOfClass}
use Rattle.pm_class.specs.declared.sample.Sample.{Sample}
use Rattle.pm_class.specs.declared.sample.SampleRefusal.{SampleRefusal}
use Rattle.pm_class.specs.declared.sample.SampleRefusal.TheVariants.{Memory, List as NotValid}

-- The choices are valid and give this map and this residue. It is a rooted map, canonical and of the class and size, and
-- the residue is valid.
pub record IsSampled (bounds residues : List ℕ) (has : RotationSystem → Type 0) (samples : RotationSystem → List ℕ → Type 0) (choices : List ℕ) (sample : Sample) : Type 0 where
  pub valid : IsValidList choices bounds
  pub given : samples sample.map sample.residue
  pub rooted : IsRootedMap sample.map
  pub canonical : IsCanonical sample.map
  pub in_class : has sample.map
  pub valid_residue : IsValidList sample.residue residues

-- The same for a map whose darts have any names: its canonical map and the residue are sampled.
pub record IsSampledUnnamed (bounds residues : List ℕ) (has : RotationSystem → Type 0) (samples : RotationSystem → List ℕ → Type 0) (choices : List ℕ) (sample : Sample) : Type 0 where
  pub rooted : IsRootedMap sample.map
  pub canonical : RotationSystem
  pub is_canonical : IsCanonicalOf sample.map canonical
  pub sampled : IsSampled bounds residues has samples choices (record { map = canonical; residue = sample.residue })

-- The map and the residue of the choices, or in what the choices aren't valid for the bounds. Want of memory may come at
-- any choices.
abbrev pub IsSampling : List ℕ → List ℕ → (RotationSystem → Type 0) → (RotationSystem → List ℕ → Type 0) → List ℕ → Result Sample SampleRefusal → Type 0
IsSampling bounds residues has samples choices (Ok sample) = IsSampled bounds residues has samples choices sample
IsSampling bounds residues has samples choices (Err (NotValid refusal)) = IsRefusalOf choices bounds refusal
IsSampling bounds residues has samples choices (Err Memory) = ⊤

-- a law: a map is answered a size exactly where it is in the class with that size, which is admissible then
abbrev pub IsSizeWhereAnswered : {Size : Type 0} → (Size → Type 0) → (Size → RotationSystem → Type 0) → (RotationSystem → Result Size ClassRefusal → Type 0) → Type 0
IsSizeWhereAnswered {Size} is_size has answers =
    (map : RotationSystem) (size : Size) → IsRootedMap map → (answers map (Ok size) ↔ (is_size size × has size map))

-- a law: a map has one answer, but for want of memory; so each refusal comes exactly where its rule is the first that is
-- broken
abbrev pub HasOneAnswer : {Size : Type 0} → (RotationSystem → Result Size ClassRefusal → Type 0) → Type 0
HasOneAnswer {Size} answers =
    (map : RotationSystem) (first second : Result Size ClassRefusal) → IsRootedMap map → answers map first → answers map second
    → (first ≡ Err MemoryOfClass → ⊥) → (second ≡ Err MemoryOfClass → ⊥) → first ≡ second

-- a law: no rooted map is without an answer other than want of memory
abbrev pub HasSomeAnswer : {Size : Type 0} → (RotationSystem → Result Size ClassRefusal → Type 0) → Type 0
HasSomeAnswer {Size} answers =
    (map : RotationSystem) → IsRootedMap map → ((answer : Result Size ClassRefusal) → answers map answer → (answer ≡ Err MemoryOfClass → ⊥) → ⊥) → ⊥

-- a law: choices give one map and one residue
abbrev pub HasOneSample : (List ℕ → RotationSystem → List ℕ → Type 0) → Type 0
HasOneSample samples =
    (choices : List ℕ) (map other : RotationSystem) (residue rest : List ℕ) → samples choices map residue → samples choices other rest
    → (map ≡ other) × (residue ≡ rest)

-- a law: valid choices give some map and residue; the map is canonical and of the class and size, and the residue is valid
abbrev pub EachListIsSampled : List ℕ → List ℕ → (RotationSystem → Type 0) → (List ℕ → RotationSystem → List ℕ → Type 0) → Type 0
EachListIsSampled bounds residues has samples =
    (choices : List ℕ) → IsValidList choices bounds → (sample : Sample) × IsSampled bounds residues has (samples choices) choices sample
