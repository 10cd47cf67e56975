-- The rules of the classes, and the first dart that breaks one.
use Rattle.std.specs.Prelude.{◌≡◌, ℕ, ◌%◌, ◌<◌, ◌≤◌, length, Result, Ok, Err, ⊤}
use Rattle.pm_perm.specs.Least.{IsLeast}
use Rattle.pm_map.specs.declared.class_refusal.ClassRefusal.{ClassRefusal}
use Rattle.pm_map.specs.declared.class_refusal.ClassRefusal.TheVariants.{Memory, Empty, TooMany, Vertex, Face, Loop, Double}
use Rattle.pm_map.specs.declared.admitted.Degrees.{Degrees}
use Rattle.pm_map.specs.declared.admitted.Degrees.TheVariants.{Exactly, EvenUpTo}
use Rattle.pm_map.specs.Structure.{Structure, dual}
use Rattle.pm_map.specs.Rotation.{RotationSystem, structure_of}
use Rattle.pm_map.specs.CycleSize.{IsCycleSize}
use Rattle.pm_map.specs.declared.simple.NotSimple.TheVariants as why
use Rattle.pm_map.specs.Classes.{IsQuartic, IsTriangulation}
use Rattle.pm_map.specs.Simple.{IsNotSimple}

-- the degree is one of these
abbrev pub IsAdmitted : Degrees → ℕ → Type 0
IsAdmitted (Exactly degree) size = size ≡ degree
IsAdmitted (EvenUpTo greatest) size = (size % 2 ≡ 0) × (size ≤ greatest)

-- the vertex of the dart has one of these degrees
pub record HasAdmittedDegree (s : Structure) (degrees : Degrees) (d : ℕ) : Type 0 where
  pub degree : ℕ
  pub counted : IsCycleSize s.next d degree
  pub admitted : IsAdmitted degrees degree

-- each vertex has one of these degrees
abbrev pub AllAdmitted : Structure → Degrees → Type 0
AllAdmitted s degrees = (d : ℕ) → d < s.darts → HasAdmittedDegree s degrees d

-- the least dart whose vertex has none of these degrees
abbrev pub IsLeastOther : Structure → Degrees → ℕ → Type 0
IsLeastOther s degrees d = IsLeast s.darts (HasAdmittedDegree s degrees) (λ e. HasAdmittedDegree s degrees e → ⊥) d

-- What a map is answered that should be quartic: its size, or the first rule that it breaks. Want of memory may come at
-- any map.
abbrev pub IsQuarticAnswer : RotationSystem → Result ℕ ClassRefusal → Type 0
IsQuarticAnswer m (Ok n) = IsQuartic (structure_of m) n
IsQuarticAnswer m (Err Empty) = length m.sigma ≡ 0
IsQuarticAnswer m (Err (Vertex dart)) = IsLeastOther (structure_of m) (Exactly 4) dart
IsQuarticAnswer m (Err Memory) = ⊤
IsQuarticAnswer m (Err (TooMany edges)) = ⊥
IsQuarticAnswer m (Err (Face dart)) = ⊥
IsQuarticAnswer m (Err (Loop dart)) = ⊥
IsQuarticAnswer m (Err (Double dart)) = ⊥

-- What a map is answered that should be a triangulation: its size, or the first rule that it breaks. Want of memory may come
-- at any map.
abbrev pub IsTriangulationAnswer : RotationSystem → Result ℕ ClassRefusal → Type 0
IsTriangulationAnswer m (Ok n) = IsTriangulation (structure_of m) n
IsTriangulationAnswer m (Err Empty) = length m.sigma ≡ 0
IsTriangulationAnswer m (Err (Face dart)) = IsLeastOther (dual (structure_of m)) (Exactly 3) dart
IsTriangulationAnswer m (Err (Loop dart)) = AllAdmitted (dual (structure_of m)) (Exactly 3) × IsNotSimple (structure_of m) (why.Loop dart)
IsTriangulationAnswer m (Err (Double dart)) = AllAdmitted (dual (structure_of m)) (Exactly 3) × IsNotSimple (structure_of m) (why.Double dart)
IsTriangulationAnswer m (Err Memory) = ⊤
IsTriangulationAnswer m (Err (TooMany edges)) = ⊥
IsTriangulationAnswer m (Err (Vertex dart)) = ⊥
