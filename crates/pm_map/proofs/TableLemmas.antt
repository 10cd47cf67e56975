-- The making of tables of degrees.
use Rattle.std.proofs.Common.{◌≡◌, ℕ, zero, suc, ◌+◌, ◌*◌, ◌/◌, ◌<◌, ◌≤◌, ◌==◌, ◌&&◌, Bool, true, false, inl, inr, nat_eq, List, length, take, set, slice_index, count_by, refl, sym, ◌∙◌, ap, arith, take_all}
use Rattle.std.proofs.lemmas.Bool.{cases_eq, cases_Bool, eq-eqb, ne_eqb}
use Rattle.std.proofs.lemmas.List.{get_or-set_same, get_or-set_other, length-set}
use Rattle.std.proofs.lemmas.List.Sums.{count_by_more_yes, count_by_more_no}
use Rattle.std.proofs.Math.Nat.{mul-div_cancel_left}
use Rattle.pm_perm.specs.Count.{count_below}
use Rattle.pm_perm.specs.Cycles.{leader}
use Rattle.pm_perm.proofs.Counts.{count_below-same, count_below-le}
use Rattle.pm_map.specs.Structure.{Structure, IsStructure}
use Rattle.pm_map.specs.Classes.{degree_of, vertices_of_degree}
use Rattle.pm_map.specs.CycleSize.{AreCycleSizes}
use Rattle.pm_map.specs.steps.Tables.{AreTallied, AreDivided, IsTableOf}
use Rattle.pm_map.specs.DegreeTable.{AreVertexCounts}
use Rattle.pm_map.proofs.DegreeCounts.{degree_counts_darts}
use Rattle.pm_map.proofs.DegreeTotals.{darts_at_degree}

-- the entries of a list that are a number are the places that have it
counted_places : (entries : List ℕ) (d n : ℕ) → n ≤ length entries → count_by (λ entry. entry == d) (take n entries) ≡ count_below (λ k. slice_index entries k == d) n
counted_places entries d zero few = refl
counted_places entries d (suc n) few = elim (cases_Bool (slice_index entries n == d)) [
  | inl is ↦
      let one : suc n ≡ n + 1 = omega arith in
      ap (λ (k : ℕ). count_by (λ entry. entry == d) (take k entries)) one ∙ count_by_more_yes (λ entry. entry == d) entries n 0 (omega arith) is
      ∙ ap (λ (k : ℕ). k + 1) (counted_places entries d n (omega arith)) ∙ sym (rw is refl)
  | inr is ↦
      let one : suc n ≡ n + 1 = omega arith in
      let plain : count_below (λ k. slice_index entries k == d) n ≡ count_below (λ k. slice_index entries k == d) n + 0 = omega arith in
      ap (λ (k : ℕ). count_by (λ entry. entry == d) (take k entries)) one ∙ count_by_more_no (λ entry. entry == d) entries n 0 (omega arith) is
      ∙ counted_places entries d n (omega arith) ∙ plain ∙ sym (rw is refl)
]

pub places_counted : (entries : List ℕ) (d : ℕ) → count_by (λ entry. entry == d) entries ≡ count_below (λ k. slice_index entries k == d) (length entries)
places_counted entries d = ap (count_by (λ entry. entry == d)) (sym (take_all (length entries) entries (omega arith))) ∙ counted_places entries d (length entries) (omega arith)

-- one entry more is counted
pub tally_more : (entries table : List ℕ) (i j d count : ℕ) → i < length entries → j ≡ i + 1 → slice_index entries i ≡ d → d < length table → count ≡ slice_index table d + 1
    → AreTallied (take i entries) table → AreTallied (take j entries) (set table d count)
tally_more entries table i j d count within next here fits counted t = record {
  each = λ k low.
      let long = length-set table d count in
      elim (cases_eq k d) [
        | inl same ↦
            let is : (slice_index entries i == k) ≡ true = eq-eqb (slice_index entries i) k (here ∙ sym same) in
            let new : slice_index (set table d count) k ≡ count = ap (slice_index (set table d count)) same ∙ get_or-set_same table d count 0 fits in
            let old = t.each d fits in
            let more = count_by_more_yes (λ entry. entry == k) entries i 0 within is in
            let few = ap (λ (n : ℕ). count_by (λ entry. entry == n) (take i entries)) same in
            new ∙ counted ∙ ap (λ (n : ℕ). n + 1) (old ∙ sym few) ∙ sym more ∙ ap (λ (n : ℕ). count_by (λ entry. entry == k) (take n entries)) (sym next)
        | inr other ↦
            let is : (slice_index entries i == k) ≡ false = ne_eqb (slice_index entries i) k (λ e. other (sym e ∙ here)) in
            get_or-set_other table d k count 0 other ∙ t.each k (omega (arith, long, low))
            ∙ sym (count_by_more_no (λ entry. entry == k) entries i 0 within is) ∙ ap (λ (n : ℕ). count_by (λ entry. entry == k) (take n entries)) (sym next)
      ];
}

-- an entry that the table doesn't have isn't
pub tally_other : (entries table : List ℕ) (i j d : ℕ) → i < length entries → j ≡ i + 1 → slice_index entries i ≡ d → length table ≤ d
    → AreTallied (take i entries) table → AreTallied (take j entries) table
tally_other entries table i j d within next here past t = record {
  each = λ k low.
      let is : (slice_index entries i == k) ≡ false = ne_eqb (slice_index entries i) k (λ e. absurd (omega (arith, e, here, past, low))) in
      t.each k low ∙ sym (count_by_more_no (λ entry. entry == k) entries i 0 within is) ∙ ap (λ (n : ℕ). count_by (λ entry. entry == k) (take n entries)) (sym next);
}

pub divided_more : (before table : List ℕ) (i j value : ℕ) → 0 < i → i < length table → j ≡ i + 1 → value ≡ slice_index table i / i → AreDivided before table i → AreDivided before (set table i value) j
divided_more before table i j value some within next is d = record {
  as_long = length-set table i value ∙ d.as_long;
  divided = λ place low high.
      elim (cases_eq place i) [
        | inl same ↦ ap (slice_index (set table i value)) same ∙ get_or-set_same table i value 0 within ∙ is ∙ ap (λ (n : ℕ). n / i) (d.later i (omega arith))
            ∙ ap (λ (k : ℕ). slice_index before k / k) (sym same)
        | inr other ↦ get_or-set_other table i place value 0 other ∙ d.divided place low (omega arith)
      ];
  first = get_or-set_other table i 0 value 0 (λ e. omega arith) ∙ d.first;
  later = λ place high. get_or-set_other table i place value 0 (λ e. omega arith) ∙ d.later place (omega arith);
}

-- the degrees of the darts are those of their vertices
degrees_are : (s : Structure) (degrees : List ℕ) → IsStructure s → length degrees ≡ s.darts → AreCycleSizes s.next degrees s.darts → (degree : ℕ)
    → count_by (λ entry. entry == degree) degrees ≡ count_below (λ d. nat_eq (degree_of s d) degree) s.darts
degrees_are s degrees is long sizes degree =
    places_counted degrees degree ∙ ap (count_below (λ k. slice_index degrees k == degree)) long
    ∙ count_below-same (λ k. slice_index degrees k == degree) (λ d. nat_eq (degree_of s d) degree) s.darts
    (λ k less. ap (λ (n : ℕ). nat_eq n degree) (sym ((degree_counts_darts s k (slice_index degrees k) is less).0 (sizes k less))))

-- the vertices of a degree, in a structure with darts
pub with_darts : (s : Structure) (degree : ℕ) → (s.darts ≡ 0 → ⊥) → vertices_of_degree s degree ≡ count_below (λ d. nat_eq (leader s.darts s.next d) d && nat_eq (degree_of s d) degree) s.darts
with_darts s degree some = let test = ne_eqb s.darts 0 some in rw test refl

pub without_darts : (s : Structure) (degree : ℕ) → s.darts ≡ 0 → 0 < degree → vertices_of_degree s degree ≡ 0
without_darts s degree none some = let test = eq-eqb s.darts 0 none in let other = ne_eqb degree 0 (λ e. absurd (omega arith)) in rw (test, other) refl

pub one_vertex : (s : Structure) → s.darts ≡ 0 → vertices_of_degree s 0 ≡ 1
one_vertex s none = let test = eq-eqb s.darts 0 none in rw test refl

-- no dart is at a vertex of degree 0
none_at_zero : (s : Structure) → IsStructure s → count_below (λ d. nat_eq (degree_of s d) 0) s.darts ≡ 0
none_at_zero s is = sym (darts_at_degree s 0 is) ∙ times_zero (count_below (λ d. nat_eq (leader s.darts s.next d) d && nat_eq (degree_of s d) 0) s.darts) where
  times_zero : (n : ℕ) → 0 * n ≡ 0
  times_zero n = omega arith

pub none_of_zero : (s : Structure) → IsStructure s → (s.darts ≡ 0 → ⊥) → vertices_of_degree s 0 ≡ 0
none_of_zero s is some =
    let few = count_below-le (λ d. nat_eq (leader s.darts s.next d) d && nat_eq (degree_of s d) 0) (λ d. nat_eq (degree_of s d) 0) s.darts (λ k less both. and_second (nat_eq (leader s.darts s.next k) k) (nat_eq (degree_of s k) 0) both) in
    with_darts s 0 some ∙ zero_of (count_below (λ d. nat_eq (leader s.darts s.next d) d && nat_eq (degree_of s d) 0) s.darts) (count_below (λ d. nat_eq (degree_of s d) 0) s.darts) few (none_at_zero s is) where
      and_second : (a b : Bool) → (a && b) ≡ true → b ≡ true
      and_second true b e = e
      and_second false b e = absurd cc

      zero_of : (few many : ℕ) → few ≤ many → many ≡ 0 → few ≡ 0
      zero_of few many h e = omega (arith, h, e)

-- the darts at vertices of a degree are the degree times these vertices
pub times_vertices : (s : Structure) (degree : ℕ) → IsStructure s → degree * vertices_of_degree s degree ≡ count_below (λ d. nat_eq (degree_of s d) degree) s.darts
times_vertices s degree is = elim (cases_eq s.darts 0) [
  | inl none ↦ elim (cases_eq degree 0) [
    | inl zero_is ↦ ap (λ (n : ℕ). n * vertices_of_degree s degree) zero_is ∙ nothing (vertices_of_degree s degree) ∙ sym (ap (count_below (λ d. nat_eq (degree_of s d) degree)) none)
    | inr some ↦ ap (λ (n : ℕ). degree * n) (without_darts s degree none (omega (arith, some))) ∙ nothing_times degree ∙ sym (ap (count_below (λ d. nat_eq (degree_of s d) degree)) none)
  ]
  | inr some ↦ ap (λ (n : ℕ). degree * n) (with_darts s degree some) ∙ darts_at_degree s degree is
] where
  nothing : (n : ℕ) → 0 * n ≡ 0
  nothing n = omega arith

  nothing_times : (n : ℕ) → n * 0 ≡ 0
  nothing_times n = omega arith

-- what the table gets at a degree from 1 on
part_of : (s : Structure) (degree : ℕ) (count : ℕ) → IsStructure s → 0 < degree → count ≡ count_below (λ d. nat_eq (degree_of s d) degree) s.darts → count / degree ≡ vertices_of_degree s degree
part_of s degree count is some e = ap (λ (n : ℕ). n / degree) (e ∙ sym (times_vertices s degree is)) ∙ mul-div_cancel_left (vertices_of_degree s degree) some

pub vertex_counts : (s : Structure) (greatest : ℕ) (degrees table : List ℕ) → IsStructure s → length degrees ≡ s.darts → AreCycleSizes s.next degrees s.darts
    → length table ≡ suc greatest → IsTableOf degrees table → AreVertexCounts s greatest table
vertex_counts s greatest degrees table is long sizes wide t = record {
  as_long = wide;
  each = λ degree low. elim (cases_eq degree 0) [
    | inl zero_is ↦ ap (slice_index table) zero_is ∙ at_zero ∙ ap (vertices_of_degree s) (sym zero_is)
    | inr more ↦
        t.divided degree (omega (arith, more)) (omega (arith, wide, low))
        ∙ part_of s degree (count_by (λ entry. entry == degree) degrees) is (omega (arith, more)) (degrees_are s degrees is long sizes degree)
  ];
} where
  at_zero : slice_index table 0 ≡ vertices_of_degree s 0
  at_zero = elim (cases_eq s.darts 0) [
    | inl none ↦ t.empty (long ∙ none) ∙ sym (one_vertex s none)
    | inr some ↦ t.filled (omega (arith, long, some)) ∙ degrees_are s degrees is long sizes 0 ∙ none_at_zero s is ∙ sym (none_of_zero s is some)
  ]

-- the steps of the writing, one after another
pub table_of : (entries tallied divided table : List ℕ) → AreTallied entries tallied → AreDivided tallied divided (length tallied) → 0 < length tallied
    → (length entries ≡ 0 → table ≡ set divided 0 1) → ((length entries ≡ 0 → ⊥) → table ≡ divided) → IsTableOf entries table
table_of entries tallied divided table t d some empty filled = record {
  divided = λ k low high. elim (cases_eq (length entries) 0) [
    | inl none ↦
        let long = ap length (empty none) in
        let wide = length-set divided 0 1 in
        ap (λ (xs : List ℕ). slice_index xs k) (empty none) ∙ get_or-set_other divided 0 k 1 0 (λ e. omega arith) ∙ each k low (omega (arith, long, wide, high))
    | inr more ↦ let long = ap length (filled more) in ap (λ (xs : List ℕ). slice_index xs k) (filled more) ∙ each k low (omega (arith, long, high))
  ];
  empty = λ none. let l = d.as_long in ap (λ (xs : List ℕ). slice_index xs 0) (empty none) ∙ get_or-set_same divided 0 1 0 (omega (arith, l, some));
  filled = λ more. ap (λ (xs : List ℕ). slice_index xs 0) (filled (λ e. omega (arith, e, more))) ∙ d.first ∙ t.each 0 some;
} where
  each : (k : ℕ) → 0 < k → k < length divided → slice_index divided k ≡ count_by (λ entry. entry == k) entries / k
  each k low high =
      let l = d.as_long in
      let within : k < length tallied = omega (arith, l, high) in
      d.divided k low within ∙ ap (λ (n : ℕ). n / k) (t.each k within)
