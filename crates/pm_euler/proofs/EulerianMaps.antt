-- Maps with vertices of even degrees: their one profile, and what a map is answered that should be one.
use Rattle.std.proofs.Common.{◌≡◌, ◌⊎◌, ℕ, suc, ◌%◌, ◌<◌, ◌≤◌, Ok, Err, inl, inr, List, map, length, slice_index, refl, sym, ◌∙◌, ap, subst, arith}
use Rattle.std.proofs.lemmas.Bool.{cases_eq, cases_lt, cases_order}
use Rattle.std.specs.List.{range_with_len}
use Rattle.std.proofs.lemmas.List.{get_or_past}
use Rattle.std.proofs.lemmas.List.FromFn.{get_or-map-range_with_len, length-map-range_with_len}
use Rattle.pm_limits.specs.declared.TheConstants.{MAX_DEGREE}
use Rattle.pm_perm.proofs.LeastCases.{all_or_least}
use Rattle.pm_map.specs.Structure.{Structure, IsStructure}
use Rattle.pm_map.specs.Rotation.{RotationSystem, structure_of, IsRootedMap}
use Rattle.pm_map.specs.Classes.{IsEulerian, HasDegrees, degree_of, vertices_of_degree}
use Rattle.pm_map.specs.ClassRules.{HasAdmittedDegree, AllAdmitted, IsLeastOther}
use Rattle.pm_map.specs.DegreeTable.{AreVertexCounts}
use Rattle.pm_map.specs.declared.admitted.Degrees.TheVariants.{EvenUpTo}
use Rattle.pm_map.specs.declared.class_refusal.ClassRefusal.TheVariants.{Memory, Empty, TooMany, Vertex, Face, Loop, Double}
use Rattle.pm_map.proofs.DegreeCounts.{HasSize, has_size, degree_counts_darts}
use Rattle.pm_map.proofs.DegreeRules.{least_other_is_unique}
use Rattle.pm_map.proofs.DegreesTaken.{dart_takes, dart_of_degree, darts_below, darts_below-more, darts_below-bound}
use Rattle.pm_map.proofs.TableLemmas.{one_vertex}
use Rattle.pm_brackets.specs.First.{IsFirst}
use Rattle.pm_trees.specs.Pairs.{IsProfile, BreaksPair, empty, wrong, pair_at}
use Rattle.pm_trees.specs.Profile.{HasTooMany}
use Rattle.pm_trees.specs.Degrees.{AreListed}
use Rattle.pm_trees.proofs.CountedPairs.{AreCounted, sum_bounded, one_counted}
use Rattle.pm_trees.proofs.Listing.{listing_exists}
use Rattle.pm_objects.proofs.ObjectCounts.{find_range}
use Rattle.pm_euler.specs.Eulerian.{IsEulerianAnswer}
use Rattle.pm_class.specs.Sampling.{IsSizeWhereAnswered, HasOneAnswer, HasSomeAnswer}

-- a list that has the vertices' degrees counts them
pub counted_of_degrees : (s : Structure) (pairs : List (ℕ × ℕ)) → IsProfile pairs → HasDegrees s pairs → AreCounted (vertices_of_degree s) pairs
counted_of_degrees s pairs profile has = record {
  rising = λ k less. (profile.are_pairs.right k less).rising;
  some = λ k less. (profile.are_pairs.right k less).counted;
  counted = λ k less. sym (has.counts k less);
  all = λ degree some. elim (find_range pairs degree (length pairs)) [
    | inl found ↦ found
    | inr none ↦ absurd (let nothing = has.others degree none in omega (arith, some, nothing))
  ];
}

pub degrees_of_counted : (s : Structure) (pairs : List (ℕ × ℕ)) → ((degree : ℕ) → 0 < vertices_of_degree s degree → degree % 2 ≡ 0) → AreCounted (vertices_of_degree s) pairs → HasDegrees s pairs
degrees_of_counted s pairs even c = record {
  rising = λ k less. c.rising (suc k) less;
  some = c.some;
  even = λ k less. even (pair_at pairs k).0 (let some = c.some k less in let counted = c.counted k less in omega (arith, some, counted));
  counts = λ k less. sym (c.counted k less);
  others = λ degree none. elim (cases_eq (vertices_of_degree s degree) 0) [
    | inl nothing ↦ nothing
    | inr some ↦ (let found = c.all degree (omega (arith, some)) in absurd (none found.0 found.1 found.2))
  ];
}

-- an admitted degree of a vertex
record IsEvenDegree (degree : ℕ) : Type 0 where
  even : degree % 2 ≡ 0
  some : 2 ≤ degree
  few : degree ≤ MAX_DEGREE

even_degrees : (s : Structure) → IsStructure s → 0 < s.darts → AllAdmitted s (EvenUpTo MAX_DEGREE) → (degree : ℕ) → 0 < vertices_of_degree s degree → IsEvenDegree degree
even_degrees s is darts admitted degree some =
    let found = dart_of_degree s degree darts some in
    let has = admitted found.0 found.1 in
    let size : degree_of s found.0 ≡ has.degree = (degree_counts_darts s found.0 has.degree is found.1).0 has.counted in
    let positive = has.counted.some in
    subst IsEvenDegree (sym size ∙ found.2) (record { even = has.admitted.0; some = two has.degree positive has.admitted.0; few = has.admitted.1 }) where
      two : (n : ℕ) → 0 < n → n % 2 ≡ 0 → 2 ≤ n
      two n low even = omega (arith, low, even)

-- the pairs that count the vertices of a map with such degrees are a profile
pub eulerian_profile : (m : RotationSystem) (pairs : List (ℕ × ℕ)) → IsRootedMap m → 0 < length m.sigma → AllAdmitted (structure_of m) (EvenUpTo MAX_DEGREE) → AreCounted (vertices_of_degree (structure_of m)) pairs → IsProfile pairs
eulerian_profile m pairs rooted darts admitted c =
    let s : Structure = structure_of m in
    let is : IsStructure (structure_of m) = rooted.structure in
    record {
      are_pairs = record {
        some = let found = c.all (degree_of (structure_of m) 0) (dart_takes (structure_of m) 0 is darts) in let l = found.1 in omega (arith, l);
        right = λ k less.
            let some = c.some k less in
            let counted = c.counted k less in
            let degree = even_degrees (structure_of m) is darts admitted (pair_at pairs k).0 (omega (arith, some, counted)) in
            record { even = degree.even; some = degree.some; few = degree.few; rising = c.rising k less; counted = some };
      };
      few =
          let sum = sum_bounded (vertices_of_degree (structure_of m)) (darts_below (structure_of m)) (λ d. darts_below-more (structure_of m) d is) pairs (length m.sigma) c (λ d. darts_below-bound (structure_of m) d) in
          let most = rooted.few in
          omega (arith, sum, most);
    }

-- the pairs of a table of the vertices' degrees count them
table_counts : (m : RotationSystem) (table : List ℕ) (pairs : List (ℕ × ℕ)) → IsRootedMap m → 0 < length m.sigma → AllAdmitted (structure_of m) (EvenUpTo MAX_DEGREE) → AreVertexCounts (structure_of m) MAX_DEGREE table → AreListed table pairs
    → AreCounted (vertices_of_degree (structure_of m)) pairs
table_counts m table pairs rooted darts admitted t l = record {
  rising = l.rising;
  some = l.some;
  counted = λ k less.
      let some = l.some k less in
      let counted = l.counted k less in
      elim (within (pair_at pairs k).0) [
        | inl low ↦ counted ∙ t.each (pair_at pairs k).0 low
        | inr past ↦ absurd (omega (arith, some, counted, past))
      ];
  all = λ degree some.
      let even = even_degrees (structure_of m) rooted.structure darts admitted degree some in
      let few = even.few in
      let two = even.some in
      let same = t.each degree few in
      l.all degree (omega (arith, two)) (omega (arith, same, some));
} where
  within : (degree : ℕ) → (degree ≤ MAX_DEGREE) ⊎ (slice_index table degree ≡ 0)
  within degree = elim (cases_order degree MAX_DEGREE) [
    | inl same ↦ inl (omega (arith, same))
    | inr apart ↦ elim apart [
      | inl low ↦ inl (omega (arith, low))
      | inr high ↦ inr (get_or_past table degree 0 (let long = t.as_long in omega (arith, long, high)))
    ]
  ]

-- so they are the map's profile
pub profile_of_table : (m : RotationSystem) (table : List ℕ) (pairs : List (ℕ × ℕ)) → IsRootedMap m → 0 < length m.sigma → AllAdmitted (structure_of m) (EvenUpTo MAX_DEGREE) → AreVertexCounts (structure_of m) MAX_DEGREE table → AreListed table pairs
    → IsProfile pairs × IsEulerian (structure_of m) pairs
profile_of_table m table pairs rooted darts admitted t l =
    let c = table_counts m table pairs rooted darts admitted t l in (
      eulerian_profile m pairs rooted darts admitted c,
      record {
        plane = record { structure = rooted.structure; connected = rooted.connected; euler = rooted.euler };
        degrees = degrees_of_counted (structure_of m) pairs (λ degree some. (even_degrees (structure_of m) rooted.structure darts admitted degree some).even) c;
      },
    )

pub eulerian_where_answered : IsSizeWhereAnswered IsProfile (λ pairs m. IsEulerian (structure_of m) pairs) IsEulerianAnswer
eulerian_where_answered m pairs rooted = (λ is. is, λ both. both)

-- each dart of a map with a profile has an admitted degree
pub profile_admits : (m : RotationSystem) (pairs : List (ℕ × ℕ)) (dart : ℕ) → IsRootedMap m → IsProfile pairs → IsEulerian (structure_of m) pairs → dart < length m.sigma → HasAdmittedDegree (structure_of m) (EvenUpTo MAX_DEGREE) dart
profile_admits m pairs dart rooted profile is within =
    let structure = rooted.structure in
    let size : HasSize (slice_index m.sigma) dart = has_size (length m.sigma) (slice_index m.sigma) dart structure.rotation within in
    let degree = (degree_counts_darts (structure_of m) dart size.size structure within).0 size.is in
    let taken = dart_takes (structure_of m) dart structure within in
    let found = (counted_of_degrees (structure_of m) pairs profile is.degrees).all (degree_of (structure_of m) dart) taken in
    let right = profile.are_pairs.right found.0 found.1 in
    let same : (pair_at pairs found.0).0 ≡ size.size = found.2 ∙ degree in
    record { degree = size.size; counted = size.is; admitted = (subst (λ (n : ℕ). n % 2 ≡ 0) same right.even, subst (λ (n : ℕ). n ≤ MAX_DEGREE) same right.few) }

-- so none has another degree
not_other : (m : RotationSystem) (pairs : List (ℕ × ℕ)) (dart : ℕ) → IsRootedMap m → IsProfile pairs → IsEulerian (structure_of m) pairs → IsLeastOther (structure_of m) (EvenUpTo MAX_DEGREE) dart → ⊥
not_other m pairs dart rooted profile is other = other.breaks (profile_admits m pairs dart rooted profile is other.within)

-- a map with a profile has darts
pub with_profile : (m : RotationSystem) (pairs : List (ℕ × ℕ)) → IsProfile pairs → IsEulerian (structure_of m) pairs → length m.sigma ≡ 0 → ⊥
with_profile m pairs profile is none =
    let taken = one_vertex (structure_of m) none in
    let found = (counted_of_degrees (structure_of m) pairs profile is.degrees).all 0 (omega (arith, taken)) in
    let two = (profile.are_pairs.right found.0 found.1).some in
    let same = found.2 in
    omega (arith, two, same)

pub one_eulerian_answer : HasOneAnswer IsEulerianAnswer
one_eulerian_answer m (Ok a) (Ok b) rooted x y _ _ =
    ap Ok (one_counted (vertices_of_degree (structure_of m)) (vertices_of_degree (structure_of m)) a b (λ d. refl) (counted_of_degrees (structure_of m) a x.0 x.1.degrees) (counted_of_degrees (structure_of m) b y.0 y.1.degrees))
one_eulerian_answer m (Ok a) (Err Empty) rooted x y _ _ = absurd (with_profile m a x.0 x.1 y)
one_eulerian_answer m (Ok a) (Err (Vertex d)) rooted x y _ _ = absurd (not_other m a d rooted x.0 x.1 y)
one_eulerian_answer m (Err Empty) (Ok b) rooted x y _ _ = absurd (with_profile m b y.0 y.1 x)
one_eulerian_answer m (Err Empty) (Err Empty) rooted x y _ _ = refl
one_eulerian_answer m (Err Empty) (Err (Vertex d)) rooted x y _ _ = let within = y.within in absurd (omega (arith, x, within))
one_eulerian_answer m (Err (Vertex d)) (Ok b) rooted x y _ _ = absurd (not_other m b d rooted y.0 y.1 x)
one_eulerian_answer m (Err (Vertex d)) (Err Empty) rooted x y _ _ = let within = x.within in absurd (omega (arith, y, within))
one_eulerian_answer m (Err (Vertex d)) (Err (Vertex e)) rooted x y _ _ = ap (λ (k : ℕ). Err (Vertex k)) (least_other_is_unique (structure_of m) (EvenUpTo MAX_DEGREE) d e x y)
one_eulerian_answer m (Err Memory) second rooted x y other _ = absurd (other refl)
one_eulerian_answer m first (Err Memory) rooted x y _ other = absurd (other refl)
one_eulerian_answer m (Err (TooMany k)) second rooted x y _ _ = absurd x
one_eulerian_answer m (Err (Face k)) second rooted x y _ _ = absurd x
one_eulerian_answer m (Err (Loop k)) second rooted x y _ _ = absurd x
one_eulerian_answer m (Err (Double k)) second rooted x y _ _ = absurd x
one_eulerian_answer m first (Err (TooMany k)) rooted x y _ _ = absurd y
one_eulerian_answer m first (Err (Face k)) rooted x y _ _ = absurd y
one_eulerian_answer m first (Err (Loop k)) rooted x y _ _ = absurd y
one_eulerian_answer m first (Err (Double k)) rooted x y _ _ = absurd y

-- pairs that are a profile aren't refused
profile_stands : (pairs : List (ℕ × ℕ)) (place : ℕ) → IsProfile pairs → BreaksPair pairs place → ⊥
profile_stands pairs place is (empty none here) = let some = is.are_pairs.some in omega (arith, none, some)
profile_stands pairs place is (wrong within breaks) = breaks (is.are_pairs.right place within)

-- so the table of a map with such degrees isn't refused
pub no_pair_refusal : (m : RotationSystem) (table : List ℕ) (place : ℕ) → IsRootedMap m → 0 < length m.sigma → AllAdmitted (structure_of m) (EvenUpTo MAX_DEGREE) → AreVertexCounts (structure_of m) MAX_DEGREE table
    → (pairs : List (ℕ × ℕ)) × AreListed table pairs × IsFirst (BreaksPair pairs) place → ⊥
no_pair_refusal m table place rooted darts admitted t a = profile_stands a.0 place (profile_of_table m table a.0 rooted darts admitted t a.1).0 a.2.here

pub no_size_refusal : (m : RotationSystem) (table : List ℕ) (edges : ℕ) → IsRootedMap m → 0 < length m.sigma → AllAdmitted (structure_of m) (EvenUpTo MAX_DEGREE) → AreVertexCounts (structure_of m) MAX_DEGREE table
    → (pairs : List (ℕ × ℕ)) × AreListed table pairs × HasTooMany pairs edges → ⊥
no_size_refusal m table edges rooted darts admitted t a =
    let few = (profile_of_table m table a.0 rooted darts admitted t a.1).0.few in
    let many = a.2.many in
    let counted = a.2.counted in
    omega (arith, few, many, counted)

-- the table of a map's degrees
degree_table : (s : Structure) → (table : List ℕ) × AreVertexCounts s MAX_DEGREE table
degree_table s = (
  map (vertices_of_degree s) (range_with_len 0 (suc MAX_DEGREE)),
  record {
    as_long = length-map-range_with_len (vertices_of_degree s) 0 (suc MAX_DEGREE);
    each = λ degree few. get_or-map-range_with_len (vertices_of_degree s) 0 (suc MAX_DEGREE) degree degree 0 (omega (arith, few)) (omega arith);
  },
)

pub some_eulerian_answer : HasSomeAnswer IsEulerianAnswer
some_eulerian_answer m rooted told = elim (cases_lt 0 (length m.sigma)) [
  | inl some ↦
      all_or_least (HasAdmittedDegree (structure_of m) (EvenUpTo MAX_DEGREE)) (length m.sigma)
      (λ all.
      let table = degree_table (structure_of m) in
      let listed = listing_exists table.0 in
      told (Ok listed.0) (profile_of_table m table.0 listed.0 rooted some all table.1 listed.1) (λ e. cc))
      (λ dart other. told (Err (Vertex dart)) other (λ e. cc))
  | inr none ↦ told (Err Empty) (omega (arith, none)) (λ e. cc)
]
