-- Simple triangulations: their size, and what a map is answered that should be one.
use Rattle.std.proofs.Common.{◌≡◌, ℕ, ◌+◌, ◌*◌, ◌/◌, ◌%◌, ◌<◌, Ok, Err, inl, inr, false, eqb, length, subst, arith}
use Rattle.std.proofs.lemmas.Bool.{cases_lt, ne_eqb}
use Rattle.pm_perm.proofs.LeastCases.{all_or_least}
use Rattle.pm_map.specs.Structure.{Structure, IsStructure, dual, face_next}
use Rattle.pm_map.specs.Plane.{faces, vertices}
use Rattle.pm_map.specs.Rotation.{IsRootedMap, RotationSystem, structure_of}
use Rattle.pm_map.specs.CycleSize.{IsCycleSize}
use Rattle.pm_map.specs.Simple.{HasNoDouble, HasNoLoop, IsDouble, IsLoop, IsSimple}
use Rattle.pm_map.specs.Classes.{IsTriangulation}
use Rattle.pm_map.specs.ClassRules.{AllAdmitted, HasAdmittedDegree, IsTriangulationAnswer}
use Rattle.pm_map.specs.declared.admitted.Degrees.TheVariants.{Exactly}
use Rattle.pm_map.specs.declared.class_refusal.ClassRefusal.TheVariants.{Empty, Face, Loop, Double}
use Rattle.pm_map.proofs.CarriedStructure.{dual_is_structure}
use Rattle.pm_map.proofs.DegreeTotals.{darts_of_degree}
use Rattle.pm_map.proofs.SimpleDarts.{darts_tell_simple}
use Rattle.pm_map.proofs.TriangulationAnswers.{one_triangulation_answer}
use Rattle.pm_class.specs.Sampling.{HasOneAnswer, HasSomeAnswer, IsSizeWhereAnswered}
use Rattle.pm_tri.specs.Triangulations.{IsTriSize, TriangulationsHaveEdges}

-- three times the faces are the darts
three_each : (s : Structure) → IsStructure s → 0 < s.darts → ((d : ℕ) → d < s.darts → IsCycleSize (face_next s) d 3) → 3 * faces s ≡ s.darts
three_each s is some sizes =
    let none : eqb s.darts 0 ≡ false = ne_eqb s.darts 0 (λ e. absurd (omega arith)) in
    rw none (darts_of_degree (dual s) 3 (dual_is_structure s is) sizes)

-- a simple map whose faces have degree 3, of this number of edges
pub triangulation_of_faces : (m : RotationSystem) (n : ℕ) → IsRootedMap m → 2 * n ≡ length m.sigma → (n ≡ 0 → ⊥) → AllAdmitted (dual (structure_of m)) (Exactly 3) → IsSimple (structure_of m) → IsTriangulation (structure_of m) (n / 3)
triangulation_of_faces m n rooted twice some admitted simple =
    let sizes : (d : ℕ) → d < length m.sigma → IsCycleSize (face_next (structure_of m)) d 3 =
    λ d less. (let has = admitted d less in subst (IsCycleSize (face_next (structure_of m)) d) has.admitted has.counted) in
    let filled : 0 < length m.sigma = omega arith in
    let three = three_each (structure_of m) rooted.structure filled sizes in
    record {
      plane = record { structure = rooted.structure; connected = rooted.connected; euler = rooted.euler };
      some = filled;
      count = thirds (vertices (structure_of m)) (faces (structure_of m)) n (length m.sigma) three twice rooted.euler;
      degrees = sizes;
      simple = simple;
    } where
      thirds : (v f n darts : ℕ) → 3 * f ≡ darts → 2 * n ≡ darts → v + f ≡ darts / 2 + 2 → v ≡ n / 3 + 2
      thirds v f n darts three twice euler = omega arith

pub triangulations_have_edges : TriangulationsHaveEdges
triangulations_have_edges m n rooted is =
    let three = three_each (structure_of m) rooted.structure is.some is.degrees in
    let both = sizes (vertices (structure_of m)) (faces (structure_of m)) n (length m.sigma) three rooted.even rooted.euler is.count in
    record { edges_are = both.0; faces_are = both.1 }
  where
    sizes : (v f n darts : ℕ) → 3 * f ≡ darts → darts % 2 ≡ 0 → v + f ≡ darts / 2 + 2 → v ≡ n + 2 → (darts / 2 ≡ 3 * n) × (f ≡ 2 * n)
    sizes v f n darts three even euler count = (omega arith, omega arith)

-- the size is admissible
tri_size_is : (m : RotationSystem) (n : ℕ) → IsRootedMap m → IsTriangulation (structure_of m) n → IsTriSize n
tri_size_is m n rooted is =
    let sizes = triangulations_have_edges m n rooted is in
    let darts = sizes.edges_are in
    let some = is.some in
    let even = rooted.even in
    let few = rooted.few in
    record { some = omega (arith, darts, some, even); few = omega (arith, darts, few, even) }

pub size_where_answered : IsSizeWhereAnswered IsTriSize (λ n m. IsTriangulation (structure_of m) n) IsTriangulationAnswer
size_where_answered m n rooted = (λ is. (tri_size_is m n rooted is, is), λ both. both.1)

pub one_answer : HasOneAnswer IsTriangulationAnswer
one_answer m first second rooted x y some_first some_second = one_triangulation_answer m first second x y some_first some_second

-- a map whose faces have degree 3 has a loop, a double or a size
no_loop_told : (m : RotationSystem) → ((d : ℕ) → IsLoop (structure_of m) d → ((e : ℕ) → e < d → IsLoop (structure_of m) e → ⊥) → d < length m.sigma → ⊥) → (HasNoLoop (structure_of m) → ⊥) → ⊥
no_loop_told m loops none =
    all_or_least (λ d. IsLoop (structure_of m) d → ⊥) (length m.sigma) none
    (λ d least. least.breaks (λ loop. loops d loop least.least least.within))

no_double_told : (m : RotationSystem) → ((d : ℕ) → IsDouble (structure_of m) d → ((e : ℕ) → e < d → IsDouble (structure_of m) e → ⊥) → d < length m.sigma → ⊥) → (HasNoDouble (structure_of m) → ⊥) → ⊥
no_double_told m doubles none =
    all_or_least (λ d. IsDouble (structure_of m) d → ⊥) (length m.sigma) none
    (λ d least. least.breaks (λ double. doubles d double least.least least.within))

pub some_answer : HasSomeAnswer IsTriangulationAnswer
some_answer m rooted told = elim (cases_lt 0 (length m.sigma)) [
  | inl some ↦
      let even = rooted.even in
      all_or_least (HasAdmittedDegree (dual (structure_of m)) (Exactly 3)) (length m.sigma)
      (λ all. no_loop_told m
      (λ d loop least within. told (Err (Loop d)) (all, record { within = within; breaks = loop; least = least }) (λ e. cc))
      (λ no_loop. no_double_told m
      (λ d double least within. told (Err (Double d)) (all, (no_loop, record { within = within; breaks = double; least = least })) (λ e. cc))
      (λ no_double. told (Ok (length m.sigma / 2 / 3))
      (triangulation_of_faces m (length m.sigma / 2) rooted (omega (arith, even)) (λ none. omega (arith, even, none, some)) all
      ((darts_tell_simple (structure_of m) rooted.structure).1 (λ d within. (no_loop d within, no_double d within))))
      (λ e. cc))))
      (λ dart other. told (Err (Face dart)) other (λ e. cc))
  | inr none ↦ told (Err Empty) (omega (arith, none)) (λ e. cc)
]
