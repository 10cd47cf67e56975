-- A map that should be a triangulation has one answer, but for want of memory.
use Rattle.std.proofs.Common.{◌≡◌, ℕ, ◌<◌, length, Result, Ok, Err, refl, ap, arith}
use Rattle.pm_map.specs.declared.class_refusal.ClassRefusal.{ClassRefusal}
use Rattle.pm_map.specs.declared.class_refusal.ClassRefusal.TheVariants.{Memory, Empty, TooMany, Vertex, Face, Loop, Double}
use Rattle.pm_map.specs.declared.admitted.Degrees.TheVariants.{Exactly}
use Rattle.pm_map.specs.declared.simple.NotSimple.{NotSimple}
use Rattle.pm_map.specs.declared.simple.NotSimple.TheVariants as why
use Rattle.pm_map.specs.Structure.{dual}
use Rattle.pm_map.specs.Rotation.{RotationSystem, structure_of}
use Rattle.pm_map.specs.Simple.{IsNotSimple}
use Rattle.pm_map.specs.Classes.{IsTriangulation}
use Rattle.pm_map.specs.ClassRules.{AllAdmitted, IsLeastOther, IsTriangulationAnswer}
use Rattle.pm_map.proofs.DegreeRules.{least_other_is_unique}
use Rattle.pm_map.proofs.SimpleDarts.{not_simple, not_simple_once}

-- the faces of a triangulation have an admitted degree
faces_admitted : (m : RotationSystem) (n : ℕ) → IsTriangulation (structure_of m) n → AllAdmitted (dual (structure_of m)) (Exactly 3)
faces_admitted m n t d h = record { degree = 3; counted = t.degrees d h; admitted = refl }

no_face : (m : RotationSystem) (dart : ℕ) → AllAdmitted (dual (structure_of m)) (Exactly 3) → IsLeastOther (dual (structure_of m)) (Exactly 3) dart → ⊥
no_face m dart all least = least.breaks (all dart least.within)

not_simple_within : (m : RotationSystem) (w : NotSimple) → IsNotSimple (structure_of m) w → 0 < length m.sigma
not_simple_within m (why.Loop dart) is = let w = is.within in omega arith
not_simple_within m (why.Double dart) is = let w = is.1.within in omega arith

same_loop : (a b : ℕ) → why.Loop a ≡ why.Loop b → a ≡ b
same_loop a b e = cc

same_double : (a b : ℕ) → why.Double a ≡ why.Double b → a ≡ b
same_double a b e = cc

loop_or_double : (a b : ℕ) → why.Loop a ≡ why.Double b → ⊥
loop_or_double a b e = cc

ok_only : (m : RotationSystem) (n : ℕ) (second : Result ℕ ClassRefusal) → IsTriangulation (structure_of m) n → IsTriangulationAnswer m second → (second ≡ Err Memory → ⊥) → Ok n ≡ second
ok_only m n (Ok other) t a memory = let one = t.count in let two = a.count in ap Ok (omega (arith, one, two))
ok_only m n (Err Empty) t a memory = absurd (let some = t.some in omega (arith, some, a))
ok_only m n (Err (Face dart)) t a memory = absurd (no_face m dart (faces_admitted m n t) a)
ok_only m n (Err (Loop dart)) t a memory = absurd (not_simple (structure_of m) (why.Loop dart) a.1 t.simple)
ok_only m n (Err (Double dart)) t a memory = absurd (not_simple (structure_of m) (why.Double dart) a.1 t.simple)
ok_only m n (Err Memory) t a memory = absurd (memory refl)
ok_only m n (Err (TooMany edges)) t a memory = absurd a
ok_only m n (Err (Vertex dart)) t a memory = absurd a

empty_only : (m : RotationSystem) (second : Result ℕ ClassRefusal) → length m.sigma ≡ 0 → IsTriangulationAnswer m second → (second ≡ Err Memory → ⊥) → Err Empty ≡ second
empty_only m (Ok n) e a memory = absurd (let some = a.some in omega (arith, some, e))
empty_only m (Err Empty) e a memory = refl
empty_only m (Err (Face dart)) e a memory = absurd (let w = a.within in omega (arith, w, e))
empty_only m (Err (Loop dart)) e a memory = absurd (let w = not_simple_within m (why.Loop dart) a.1 in omega (arith, w, e))
empty_only m (Err (Double dart)) e a memory = absurd (let w = not_simple_within m (why.Double dart) a.1 in omega (arith, w, e))
empty_only m (Err Memory) e a memory = absurd (memory refl)
empty_only m (Err (TooMany edges)) e a memory = absurd a
empty_only m (Err (Vertex dart)) e a memory = absurd a

face_only : (m : RotationSystem) (p : ℕ) (second : Result ℕ ClassRefusal) → IsLeastOther (dual (structure_of m)) (Exactly 3) p → IsTriangulationAnswer m second → (second ≡ Err Memory → ⊥) → Err (Face p) ≡ second
face_only m p (Ok n) h a memory = absurd (no_face m p (faces_admitted m n a) h)
face_only m p (Err Empty) h a memory = absurd (let w = h.within in omega (arith, w, a))
face_only m p (Err (Face dart)) h a memory = ap (λ (d : ℕ). Err (Face d)) (least_other_is_unique (dual (structure_of m)) (Exactly 3) p dart h a)
face_only m p (Err (Loop dart)) h a memory = absurd (no_face m p a.0 h)
face_only m p (Err (Double dart)) h a memory = absurd (no_face m p a.0 h)
face_only m p (Err Memory) h a memory = absurd (memory refl)
face_only m p (Err (TooMany edges)) h a memory = absurd a
face_only m p (Err (Vertex dart)) h a memory = absurd a

loop_only : (m : RotationSystem) (p : ℕ) (second : Result ℕ ClassRefusal) → AllAdmitted (dual (structure_of m)) (Exactly 3) → IsNotSimple (structure_of m) (why.Loop p) → IsTriangulationAnswer m second
    → (second ≡ Err Memory → ⊥) → Err (Loop p) ≡ second
loop_only m p (Ok n) all h a memory = absurd (not_simple (structure_of m) (why.Loop p) h a.simple)
loop_only m p (Err Empty) all h a memory = absurd (let w = not_simple_within m (why.Loop p) h in omega (arith, w, a))
loop_only m p (Err (Face dart)) all h a memory = absurd (no_face m dart all a)
loop_only m p (Err (Loop dart)) all h a memory = ap (λ (d : ℕ). Err (Loop d)) (same_loop p dart (not_simple_once (structure_of m) (why.Loop p) (why.Loop dart) h a.1))
loop_only m p (Err (Double dart)) all h a memory = absurd (loop_or_double p dart (not_simple_once (structure_of m) (why.Loop p) (why.Double dart) h a.1))
loop_only m p (Err Memory) all h a memory = absurd (memory refl)
loop_only m p (Err (TooMany edges)) all h a memory = absurd a
loop_only m p (Err (Vertex dart)) all h a memory = absurd a

double_only : (m : RotationSystem) (p : ℕ) (second : Result ℕ ClassRefusal) → AllAdmitted (dual (structure_of m)) (Exactly 3) → IsNotSimple (structure_of m) (why.Double p) → IsTriangulationAnswer m second
    → (second ≡ Err Memory → ⊥) → Err (Double p) ≡ second
double_only m p (Ok n) all h a memory = absurd (not_simple (structure_of m) (why.Double p) h a.simple)
double_only m p (Err Empty) all h a memory = absurd (let w = not_simple_within m (why.Double p) h in omega (arith, w, a))
double_only m p (Err (Face dart)) all h a memory = absurd (no_face m dart all a)
double_only m p (Err (Loop dart)) all h a memory = absurd (loop_or_double dart p (not_simple_once (structure_of m) (why.Loop dart) (why.Double p) a.1 h))
double_only m p (Err (Double dart)) all h a memory = ap (λ (d : ℕ). Err (Double d)) (same_double p dart (not_simple_once (structure_of m) (why.Double p) (why.Double dart) h a.1))
double_only m p (Err Memory) all h a memory = absurd (memory refl)
double_only m p (Err (TooMany edges)) all h a memory = absurd a
double_only m p (Err (Vertex dart)) all h a memory = absurd a

pub one_triangulation_answer : (m : RotationSystem) (first second : Result ℕ ClassRefusal) → IsTriangulationAnswer m first → IsTriangulationAnswer m second
    → (first ≡ Err Memory → ⊥) → (second ≡ Err Memory → ⊥) → first ≡ second
one_triangulation_answer m (Ok n) second a b _ memory = ok_only m n second a b memory
one_triangulation_answer m (Err Empty) second a b _ memory = empty_only m second a b memory
one_triangulation_answer m (Err (Face dart)) second a b _ memory = face_only m dart second a b memory
one_triangulation_answer m (Err (Loop dart)) second a b _ memory = loop_only m dart second a.0 a.1 b memory
one_triangulation_answer m (Err (Double dart)) second a b _ memory = double_only m dart second a.0 a.1 b memory
one_triangulation_answer m (Err Memory) second a b memory _ = absurd (memory refl)
one_triangulation_answer m (Err (TooMany edges)) second a b _ memory = absurd a
one_triangulation_answer m (Err (Vertex dart)) second a b _ memory = absurd a
