-- Quartic maps: their size, and what a map is answered that should be one.
use Rattle.std.proofs.Common.{◌≡◌, ℕ, ◌*◌, ◌/◌, ◌<◌, Ok, Err, inl, inr, false, eqb, length, refl, sym, ◌∙◌, ap, subst, arith, ◌%◌, zero, suc, eq-eqb}
use Rattle.std.specs.Prelude.{slice_index}
use Rattle.std.proofs.lemmas.Bool.{cases_lt, ne_eqb, cases_eq}
use Rattle.pm_perm.proofs.LeastCases.{all_or_least}
use Rattle.pm_map.proofs.DegreesTaken.{dart_takes, dart_of_degree}
use Rattle.pm_map.proofs.DegreeCounts.{degree_counts_darts}
use Rattle.pm_perm.proofs.Counts.{count_below-all}
use Rattle.pm_euler.proofs.QuarticMade.{quartic_profile}
use Rattle.pm_euler.proofs.TreeNodes.{profile_darts}
use Rattle.pm_trees.specs.Pairs.{pair_at}
use Rattle.pm_perm.specs.Count.{count_below}
use Rattle.pm_euler.proofs.TreeSamples.{AreMapsOf}
use Rattle.pm_map.specs.Structure.{Structure, IsStructure}
use Rattle.pm_map.specs.Plane.{vertices}
use Rattle.pm_map.specs.Rotation.{RotationSystem, structure_of, IsRootedMap}
use Rattle.pm_map.specs.CycleSize.{IsCycleSize}
use Rattle.pm_map.specs.Classes.{IsQuartic, degree_of, IsEulerian, vertices_of_degree}
use Rattle.pm_map.specs.ClassRules.{IsQuarticAnswer, HasAdmittedDegree, AllAdmitted, IsLeastOther}
use Rattle.pm_map.specs.declared.admitted.Degrees.TheVariants.{Exactly}
use Rattle.pm_map.specs.declared.class_refusal.ClassRefusal.TheVariants.{Memory, Empty, TooMany, Vertex, Face, Loop, Double}
use Rattle.pm_euler.specs.Quartic.{IsQuarticSize, quartic_pairs}
use Rattle.pm_class.specs.Sampling.{IsSizeWhereAnswered, HasOneAnswer, HasSomeAnswer}
use Rattle.pm_map.proofs.DegreeRules.{least_other_is_unique}
use Rattle.pm_map.proofs.DegreeTotals.{darts_at_degree, darts_of_degree}

-- four times the vertices are the darts
pub four_each : (s : Structure) → IsStructure s → 0 < s.darts → ((d : ℕ) → d < s.darts → IsCycleSize s.next d 4) → 4 * vertices s ≡ s.darts
four_each s is some sizes =
    let none : eqb s.darts 0 ≡ false = ne_eqb s.darts 0 (λ e. absurd (omega arith)) in
    rw none (darts_of_degree s 4 is sizes)

-- a map whose vertices have degree 4, of this number of edges
pub quartic_of_degrees : (m : RotationSystem) (edges : ℕ) → IsRootedMap m → 2 * edges ≡ length m.sigma → (edges ≡ 0 → ⊥) → AllAdmitted (structure_of m) (Exactly 4) → IsQuartic (structure_of m) (edges / 2)
quartic_of_degrees m edges rooted twice some admitted =
    let sizes : (d : ℕ) → d < length m.sigma → IsCycleSize (slice_index m.sigma) d 4 =
    λ d less. (let has = admitted d less in subst (IsCycleSize (slice_index m.sigma) d) has.admitted has.counted) in
    let filled : 0 < length m.sigma = omega arith in
    let four : 4 * vertices (structure_of m) ≡ length m.sigma = four_each (structure_of m) rooted.structure filled sizes in
    record {
      plane = record { structure = rooted.structure; connected = rooted.connected; euler = rooted.euler };
      some = filled;
      count = halves (vertices (structure_of m)) edges (length m.sigma) four twice;
      degrees = sizes;
    } where
      halves : (n edges darts : ℕ) → 4 * n ≡ darts → 2 * edges ≡ darts → n ≡ edges / 2
      halves n edges darts four twice = omega arith

-- the darts are four times the size
pub quartic_darts : (m : RotationSystem) (n : ℕ) → IsRootedMap m → IsQuartic (structure_of m) n → length m.sigma ≡ 4 * n
quartic_darts m n rooted is = sym (four_each (structure_of m) rooted.structure is.some is.degrees) ∙ ap (λ (v : ℕ). 4 * v) is.count

-- its size is admissible
pub quartic_size : (m : RotationSystem) (n : ℕ) → IsRootedMap m → IsQuartic (structure_of m) n → IsQuarticSize n
quartic_size m n rooted is =
    let darts = quartic_darts m n rooted is in
    let some = is.some in
    let few = rooted.few in
    record { some = omega (arith, darts, some); few = omega (arith, darts, few) }

-- where each vertex has degree 4, all of them are of this degree
all_four : (s : Structure) → IsStructure s → 0 < s.darts → ((d : ℕ) → d < s.darts → IsCycleSize s.next d 4) → vertices_of_degree s 4 ≡ vertices s
all_four s is some sizes =
    let none : eqb s.darts 0 ≡ false = ne_eqb s.darts 0 (λ e. absurd (omega arith)) in
    let at : 4 * vertices_of_degree s 4 ≡ count_below (λ d. eqb (degree_of s d) 4) s.darts = rw none (darts_at_degree s 4 is) in
    let all = count_below-all (λ d. eqb (degree_of s d) 4) s.darts (λ d less. eq-eqb (degree_of s d) 4 ((degree_counts_darts s d 4 is less).0 (sizes d less))) in
    let whole = four_each s is some sizes in
    omega (arith, at, all, whole)

-- the quartic maps of a size are those with as many vertices of degree 4
quartic_is_eulerian : (m : RotationSystem) (n : ℕ) → IsRootedMap m → IsQuartic (structure_of m) n → IsEulerian (structure_of m) (quartic_pairs n)
quartic_is_eulerian m n rooted is = record {
  plane = is.plane;
  degrees = record { rising = λ k less. absurd (omega (arith, less)); some = some; even = even; counts = counts; others = others };
} where
  some : (k : ℕ) → k < 1 → 0 < (pair_at (quartic_pairs n) k).1
  some zero less = (quartic_size m n rooted is).some
  some (suc k) less = absurd (omega (arith, less))

  even : (k : ℕ) → k < 1 → (pair_at (quartic_pairs n) k).0 % 2 ≡ 0
  even zero less = refl
  even (suc k) less = absurd (omega (arith, less))

  counts : (k : ℕ) → k < 1 → vertices_of_degree (structure_of m) (pair_at (quartic_pairs n) k).0 ≡ (pair_at (quartic_pairs n) k).1
  counts zero less = all_four (structure_of m) rooted.structure is.some is.degrees ∙ is.count
  counts (suc k) less = absurd (omega (arith, less))

  others : (degree : ℕ) → ((k : ℕ) → k < 1 → (pair_at (quartic_pairs n) k).0 ≡ degree → ⊥) → vertices_of_degree (structure_of m) degree ≡ 0
  others degree none = elim (cases_lt 0 (vertices_of_degree (structure_of m) degree)) [
    | inl taken ↦
        let found = dart_of_degree (structure_of m) degree is.some taken in
        let four : degree_of (structure_of m) found.0 ≡ 4 = (degree_counts_darts (structure_of m) found.0 4 rooted.structure found.1).0 (is.degrees found.0 found.1) in
        absurd (none 0 (omega arith) (sym four ∙ found.2))
    | inr nothing ↦ omega (arith, nothing)
  ]

eulerian_is_quartic : (m : RotationSystem) (n : ℕ) → IsRootedMap m → 0 < length m.sigma → IsEulerian (structure_of m) (quartic_pairs n) → IsQuartic (structure_of m) n
eulerian_is_quartic m n rooted some is = record { plane = is.plane; some = some; count = sym (all_four (structure_of m) rooted.structure some sizes) ∙ is.degrees.counts 0 (omega arith); degrees = sizes } where
  no_pair : (d : ℕ) → (d ≡ 4 → ⊥) → (k : ℕ) → k < 1 → (pair_at (quartic_pairs n) k).0 ≡ d → ⊥
  no_pair d other zero less e = other (sym e)
  no_pair d other (suc k) less e = absurd (omega (arith, less))

  sizes : (d : ℕ) → d < length m.sigma → IsCycleSize (slice_index m.sigma) d 4
  sizes d less = elim (cases_eq (degree_of (structure_of m) d) 4) [
    | inl four ↦ (degree_counts_darts (structure_of m) d 4 rooted.structure less).1 four
    | inr other ↦ absurd (
        let taken = dart_takes (structure_of m) d rooted.structure less in
        let none = is.degrees.others (degree_of (structure_of m) d) (no_pair (degree_of (structure_of m) d) other) in
        omega (arith, taken, none)
        )
  ]

pub quartic_maps : (n : ℕ) → IsQuarticSize n → AreMapsOf (quartic_pairs n) (λ m. IsQuartic (structure_of m) n)
quartic_maps n size m rooted = (λ is. quartic_is_eulerian m n rooted is, λ is. eulerian_is_quartic m n rooted (profile_darts (quartic_pairs n) m (quartic_profile n size) is) is)

pub size_where_answered : IsSizeWhereAnswered IsQuarticSize (λ n m. IsQuartic (structure_of m) n) IsQuarticAnswer
size_where_answered m n rooted = (λ is. (quartic_size m n rooted is, is), λ both. both.1)

-- no quartic map has a dart whose vertex has another degree
not_other : (m : RotationSystem) (n dart : ℕ) → IsQuartic (structure_of m) n → IsLeastOther (structure_of m) (Exactly 4) dart → ⊥
not_other m n dart is other = other.breaks (record { degree = 4; counted = is.degrees dart other.within; admitted = refl })

pub one_quartic_answer : HasOneAnswer IsQuarticAnswer
one_quartic_answer m (Ok a) (Ok b) rooted x y _ _ = ap Ok (sym x.count ∙ y.count)
one_quartic_answer m (Ok a) (Err Empty) rooted x y _ _ = let some = x.some in absurd (omega (arith, y, some))
one_quartic_answer m (Ok a) (Err (Vertex d)) rooted x y _ _ = absurd (not_other m a d x y)
one_quartic_answer m (Err Empty) (Ok b) rooted x y _ _ = let some = y.some in absurd (omega (arith, x, some))
one_quartic_answer m (Err Empty) (Err Empty) rooted x y _ _ = refl
one_quartic_answer m (Err Empty) (Err (Vertex d)) rooted x y _ _ = let within = y.within in absurd (omega (arith, x, within))
one_quartic_answer m (Err (Vertex d)) (Ok b) rooted x y _ _ = absurd (not_other m b d y x)
one_quartic_answer m (Err (Vertex d)) (Err Empty) rooted x y _ _ = let within = x.within in absurd (omega (arith, y, within))
one_quartic_answer m (Err (Vertex d)) (Err (Vertex e)) rooted x y _ _ = ap (λ (k : ℕ). Err (Vertex k)) (least_other_is_unique (structure_of m) (Exactly 4) d e x y)
one_quartic_answer m (Err Memory) second rooted x y other _ = absurd (other refl)
one_quartic_answer m first (Err Memory) rooted x y _ other = absurd (other refl)
one_quartic_answer m (Err (TooMany k)) second rooted x y _ _ = absurd x
one_quartic_answer m (Err (Face k)) second rooted x y _ _ = absurd x
one_quartic_answer m (Err (Loop k)) second rooted x y _ _ = absurd x
one_quartic_answer m (Err (Double k)) second rooted x y _ _ = absurd x
one_quartic_answer m first (Err (TooMany k)) rooted x y _ _ = absurd y
one_quartic_answer m first (Err (Face k)) rooted x y _ _ = absurd y
one_quartic_answer m first (Err (Loop k)) rooted x y _ _ = absurd y
one_quartic_answer m first (Err (Double k)) rooted x y _ _ = absurd y

pub some_quartic_answer : HasSomeAnswer IsQuarticAnswer
some_quartic_answer m rooted told = elim (cases_lt 0 (length m.sigma)) [
  | inl some ↦
      let even = rooted.even in
      all_or_least (HasAdmittedDegree (structure_of m) (Exactly 4)) (length m.sigma)
      (λ all. told (Ok (length m.sigma / 2 / 2)) (quartic_of_degrees m (length m.sigma / 2) rooted (omega (arith, even)) (λ none. omega (arith, even, none, some)) all) (λ e. cc))
      (λ dart other. told (Err (Vertex dart)) other (λ e. cc))
  | inr none ↦ told (Err Empty) (omega (arith, none)) (λ e. cc)
]
