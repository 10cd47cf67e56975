-- The ends of the edges of a map, listed by darts and sorted: where entries with equal ends stand side by side, the least dart of
-- two neighbours that are equal is the least double of the map.
use Rattle.std.proofs.Common.{◌≡◌, ◌≢◌, ℕ, zero, suc, ◌+◌, ◌-◌, ◌<◌, ◌≤◌, ◌%◌, ◌⊎◌, inl, inr, min, Bool, false, cond, nat_eq, List, [], ◌∷◌, ◌++◌, length, length-append, get_or, slice_index, Option, Some, None, MatchOption, Contains, refl, sym, ◌∙◌, ap, subst, lt-ltb, le-ltb, eq-eqb, ne_eqb, arith}
use Rattle.std.proofs.lemmas.List.{get_or_push, get_or_append_left, get_or_default}
use Rattle.std.proofs.lemmas.Bool.{cases_eq, cases_lt, cases_order, false≢true}
use Rattle.std.specs.Ordering.{nat_cmp, is_lt, ordering_then}
use Rattle.std.specs.declared.cmp.Ordering.{Ordering}
use Rattle.std.specs.declared.cmp.Ordering.TheVariants.{Less, Equal, Greater}
use Rattle.std.specs.Prelude.{All, IsPermutation}
use Rattle.std.proofs.lemmas.List.Sorted.{All-permutation, Contains-permutation}
use Rattle.std.proofs.lemmas.Map.Keys.{apart_from_distinct, IsDistinct-from_apart, IsDistinct-IsPermutation}
use Rattle.std.specs.List.{IsDistinct}
use Rattle.pm_perm.specs.Permutation.{IsPermutationList}
use Rattle.pm_perm.specs.Cycles.{leader}
use Rattle.pm_perm.specs.Least.{IsLeast}
use Rattle.pm_perm.specs.Lists.{IsLeaderList}
use Rattle.pm_perm.proofs.SameCycle.{in_cycle-leader, leader-in_cycle}
use Rattle.pm_map.specs.declared.simple.Ends.{Ends}
use Rattle.pm_map.specs.Rotation.{RotationSystem, structure_of, twin}
use Rattle.pm_map.specs.Simple.{HasNoDouble, HasNoLoop, IsDouble, IsLeastDouble, IsLeastLoop, IsLoop}
use Rattle.pm_map.specs.steps.Ends.{AreApart, AreGrouped, AreListed, HaveEqualEnds, IsLeastRepeated, ends_of, entry_at}
use Rattle.pm_map.proofs.MarksLemmas.{MatchOption-weaker}
use Rattle.pm_map.proofs.TwinLemmas.{twin_stays}

-- the entries of the darts below a bound are listed
pub record AreListedBelow (leaders : List ℕ) (bound : ℕ) (ends : List Ends) : Type 0 where
  pub long : length ends ≡ bound
  pub each : (d : ℕ) → d < bound → entry_at ends d ≡ ends_of leaders d

pub listed-none : (leaders : List ℕ) → AreListedBelow leaders 0 []
listed-none leaders = record { long = refl; each = λ d h. absurd (omega (arith, h)) }

pub listed-more : (leaders : List ℕ) (bound : ℕ) (ends : List Ends) → AreListedBelow leaders bound ends → AreListedBelow leaders (bound + 1) (ends ++ ends_of leaders bound ∷ [])
listed-more leaders bound ends b =
    let o : Ends = record { vertex = 0; far = 0; dart = 0 } in
    record {
      long = omega (arith, length-append ends (ends_of leaders bound ∷ []), b.long);
      each = λ d h. elim (cases_eq d bound) [
        | inl last ↦ get_or_push ends (ends_of leaders bound) o d (b.long ∙ sym last) ∙ ap (ends_of leaders) (sym last)
        | inr before ↦ get_or_append_left ends (ends_of leaders bound ∷ []) o d (omega (arith, h, before, b.long)) ∙ b.each d (omega (arith, h, before))
      ];
    }

pub listed-all : (leaders : List ℕ) (bound : ℕ) (ends : List Ends) → bound ≡ length leaders → AreListedBelow leaders bound ends → AreListed leaders ends
listed-all leaders bound ends all b = record { same_length = b.long ∙ all; each = λ d h. b.each d (omega (arith, h, all)) }

-- the order of the entries: by the vertex, then by the far vertex, then by the dart
abbrev pub compare_ends : Ends → Ends → Ordering
compare_ends x y = ordering_then (nat_cmp x.vertex y.vertex) (ordering_then (nat_cmp x.far y.far) (nat_cmp x.dart y.dart))

-- the ends of the one come before those of the other in that order, or are equal
record Comes (x y : Ends) : Type 0 where
  order : (x.vertex < y.vertex) ⊎ ((x.vertex ≡ y.vertex) × (x.far ≤ y.far))

nat_cmp-less : (x y : ℕ) → x < y → nat_cmp x y ≡ Less
nat_cmp-less x y h = ap (λ b. cond b Less (cond (nat_eq x y) Equal Greater)) (lt-ltb x y h)

nat_cmp-same : (x y : ℕ) → x ≡ y → nat_cmp x y ≡ Equal
nat_cmp-same x y e =
    ap (λ b. cond b Less (cond (nat_eq x y) Equal Greater)) (le-ltb x y (omega arith)) ∙ ap (λ b. cond b Equal Greater) (eq-eqb x y e)

less_is_true : (o : Ordering) → o ≡ Less → is_lt o ≡ false → ⊥
less_is_true o e e' = false≢true (sym e' ∙ ap is_lt e)

Comes-from_sorted : (x y : Ends) → is_lt (compare_ends y x) ≡ false → Comes x y
Comes-from_sorted x y e =
    let rest : Ordering → Ordering = λ o. ordering_then o (nat_cmp y.dart x.dart) in
    record {
      order = elim (cases_order x.vertex y.vertex) [
        | inl same ↦ elim (cases_lt y.far x.far) [
          | inl less ↦
              absurd (less_is_true (compare_ends y x)
              (ap (λ o. ordering_then o (rest (nat_cmp y.far x.far))) (nat_cmp-same y.vertex x.vertex (sym same)) ∙ ap rest (nat_cmp-less y.far x.far less)) e)
          | inr more ↦ inr (same, more)
        ]
        | inr apart ↦ elim apart [
          | inl less ↦ inl less
          | inr more ↦ absurd (less_is_true (compare_ends y x) (ap (λ o. ordering_then o (rest (nat_cmp y.far x.far))) (nat_cmp-less y.vertex x.vertex more)) e)
        ]
      ];
    }

Comes-same : (x : Ends) → Comes x x
Comes-same x = record { order = inr (refl, omega arith) }

Comes-through : (x y z : Ends) → Comes x y → Comes y z → Comes x z
Comes-through x y z xy yz = record {
  order = elim xy.order [
    | inl less ↦ elim yz.order [ inl less' ↦ inl (omega (arith, less, less')) | inr same' ↦ inl (omega (arith, less, same'.0)) ]
    | inr same ↦ elim yz.order [ inl less' ↦ inl (omega (arith, same.0, less')) | inr same' ↦ inr (same.0 ∙ same'.0, omega (arith, same.1, same'.1)) ]
  ];
}

-- what comes between entries with equal ends has the same ends
Comes-between : (x y z : Ends) → Comes x y → Comes y z → HaveEqualEnds x z → HaveEqualEnds x y
Comes-between x y z xy yz equal =
    let near = equal.near in
    let far = equal.far in
    elim xy.order [
      | inl less ↦ elim yz.order [ inl less' ↦ absurd (omega (arith, less, less', near)) | inr same' ↦ absurd (omega (arith, less, same'.0, near)) ]
      | inr same ↦ elim yz.order [
        | inl less' ↦ absurd (omega (arith, same.0, less', near))
        | inr same' ↦ record { near = same.0; far = omega (arith, same.1, same'.1, far) }
      ]
    ]

pub record AreSorted (ends : List Ends) : Type 0 where
  pub sorted : (k : ℕ) → k + 1 < length ends → is_lt (compare_ends (entry_at ends (k + 1)) (entry_at ends k)) ≡ false

Comes-far : (ends : List Ends) → AreSorted ends → (i more : ℕ) → i + more < length ends → Comes (entry_at ends i) (entry_at ends (i + more))
Comes-far ends s i zero h = subst (λ k. Comes (entry_at ends i) (entry_at ends k)) (let e : i ≡ i + 0 = omega arith in e) (Comes-same (entry_at ends i))
Comes-far ends s i (suc more) h =
    let e : i + more + 1 ≡ i + suc more = omega arith in
    let earlier : Comes (entry_at ends i) (entry_at ends (i + more)) = Comes-far ends s i more (omega (arith, h)) in
    let next : Comes (entry_at ends (i + more)) (entry_at ends (i + more + 1)) = Comes-from_sorted (entry_at ends (i + more)) (entry_at ends (i + more + 1)) (s.sorted (i + more) (omega (arith, h))) in
    subst (λ k. Comes (entry_at ends i) (entry_at ends k)) e (Comes-through (entry_at ends i) (entry_at ends (i + more)) (entry_at ends (i + more + 1)) earlier next)

Comes-later : (ends : List Ends) → AreSorted ends → (i j : ℕ) → i ≤ j → j < length ends → Comes (entry_at ends i) (entry_at ends j)
Comes-later ends s i j l h =
    let e : i + (j - i) ≡ j = omega arith in
    subst (λ k. Comes (entry_at ends i) (entry_at ends k)) e (Comes-far ends s i (j - i) (omega (arith, e)))

-- what is sorted is grouped
pub grouped-sorted : (ends : List Ends) → AreSorted ends → AreGrouped ends
grouped-sorted ends s i j k l m within equal =
    Comes-between (entry_at ends i) (entry_at ends j) (entry_at ends k) (Comes-later ends s i j l (omega arith)) (Comes-later ends s j k m within) equal

equal-turned : (a b : Ends) → HaveEqualEnds a b → HaveEqualEnds b a
equal-turned a b e = record { near = sym e.near; far = sym e.far }

equal-through : (a b c : Ends) → HaveEqualEnds a b → HaveEqualEnds a c → HaveEqualEnds b c
equal-through a b c e f = record { near = sym e.near ∙ f.near; far = sym e.far ∙ f.far }

-- the least dart of two neighbours with equal ends before a bound
pub record IsLowest (ends : List Ends) (bound dart : ℕ) : Type 0 where
  pub place : ℕ
  pub before : suc place < bound
  pub within : suc place < length ends
  pub equal : HaveEqualEnds (entry_at ends place) (entry_at ends (suc place))
  pub is_dart : ((entry_at ends place).dart ≡ dart) ⊎ ((entry_at ends (suc place)).dart ≡ dart)
  pub least : (k : ℕ) → suc k < bound → HaveEqualEnds (entry_at ends k) (entry_at ends (suc k)) → (dart ≤ (entry_at ends k).dart) × (dart ≤ (entry_at ends (suc k)).dart)

abbrev pub IsLeastNeighbour : List Ends → ℕ → Option ℕ → Type 0
IsLeastNeighbour ends bound found = MatchOption found ((k : ℕ) → suc k < bound → HaveEqualEnds (entry_at ends k) (entry_at ends (suc k)) → ⊥) (IsLowest ends bound)

-- the neighbours at the bound are equal
neighbour_lowest : (ends : List Ends) (p dart : ℕ) → suc p < length ends → HaveEqualEnds (entry_at ends p) (entry_at ends (suc p)) → dart ≡ min (entry_at ends p).dart (entry_at ends (suc p)).dart
    → ((k : ℕ) → suc k < suc p → HaveEqualEnds (entry_at ends k) (entry_at ends (suc k)) → (dart ≤ (entry_at ends k).dart) × (dart ≤ (entry_at ends (suc k)).dart)) → IsLowest ends (suc (suc p)) dart
neighbour_lowest ends p dart within equal lower earlier = record {
  place = p;
  before = omega arith;
  within = within;
  equal = equal;
  is_dart = elim (cases_lt (entry_at ends p).dart (entry_at ends (suc p)).dart) [ inl l ↦ inl (omega (arith, lower, l)) | inr g ↦ inr (omega (arith, lower, g)) ];
  least = λ k l e. elim (cases_eq k p) [
    | inl here ↦
        let a : (entry_at ends k).dart ≡ (entry_at ends p).dart = ap (λ i. (entry_at ends i).dart) here in
        let b : (entry_at ends (suc k)).dart ≡ (entry_at ends (suc p)).dart = ap (λ i. (entry_at ends (suc i)).dart) here in
        (omega (arith, a, lower), omega (arith, b, lower))
    | inr other ↦ earlier k (omega arith) e
  ];
}

neighbour_found : (ends : List Ends) (p new dart : ℕ) (found : Option ℕ) → suc p < length ends → HaveEqualEnds (entry_at ends p) (entry_at ends (suc p)) → dart ≡ min (entry_at ends p).dart (entry_at ends (suc p)).dart
    → MatchOption found (new ≡ dart) (λ other. new ≡ min other dart) → IsLeastNeighbour ends (suc p) found → IsLowest ends (suc (suc p)) new
neighbour_found ends p new dart None within equal lower is h = subst (IsLowest ends (suc (suc p))) (sym is) (neighbour_lowest ends p dart within equal lower (λ k l e. absurd (h k l e)))
neighbour_found ends p new dart (Some other) within equal lower is h = elim (cases_lt other dart) [
  | inl l ↦
      let e : other ≡ new = omega (arith, is, l) in
      subst (IsLowest ends (suc (suc p))) e (record {
        place = h.place;
        before = let b = h.before in omega (arith, b);
        within = h.within;
        equal = h.equal;
        is_dart = h.is_dart;
        least = λ k m q. elim (cases_eq k p) [
          | inl here ↦
              let a : (entry_at ends k).dart ≡ (entry_at ends p).dart = ap (λ i. (entry_at ends i).dart) here in
              let b : (entry_at ends (suc k)).dart ≡ (entry_at ends (suc p)).dart = ap (λ i. (entry_at ends (suc i)).dart) here in
              (omega (arith, a, lower, l), omega (arith, b, lower, l))
          | inr apart ↦ h.least k (omega arith) q
        ];
      })
  | inr g ↦
      let e : dart ≡ new = omega (arith, is, g) in
      subst (IsLowest ends (suc (suc p))) e (neighbour_lowest ends p dart within equal lower (λ k l q. let m = h.least k l q in let a = m.0 in let b = m.1 in (omega (arith, a, g), omega (arith, b, g))))
]

-- the state of the search after two neighbours with equal ends, and after two with others
pub neighbour_some : (ends : List Ends) (place next new dart : ℕ) (found : Option ℕ) → 0 < place → place < length ends → next ≡ place + 1 → (entry_at ends (place - 1)).vertex ≡ (entry_at ends place).vertex
    → (entry_at ends (place - 1)).far ≡ (entry_at ends place).far → dart ≡ min (entry_at ends (place - 1)).dart (entry_at ends place).dart → MatchOption found (new ≡ dart) (λ other. new ≡ min other dart)
    → IsLeastNeighbour ends place found → IsLeastNeighbour ends next (Some new)
neighbour_some ends zero next new dart found some within step near far lower is h = absurd (omega arith)
neighbour_some ends (suc p) next new dart found some within step near far lower is h =
    let back : suc p - 1 ≡ p = omega arith in
    let there : suc (suc p) ≡ next = omega (arith, step) in
    let equal : HaveEqualEnds (entry_at ends p) (entry_at ends (suc p)) = subst (λ k. HaveEqualEnds (entry_at ends k) (entry_at ends (suc p))) back (record { near = near; far = far }) in
    let low : dart ≡ min (entry_at ends p).dart (entry_at ends (suc p)).dart = subst (λ k. dart ≡ min (entry_at ends k).dart (entry_at ends (suc p)).dart) back lower in
    subst (λ k. IsLowest ends k new) there (neighbour_found ends p new dart found within equal low is h)

pub neighbour_none : (ends : List Ends) (place next : ℕ) (found : Option ℕ) → next ≡ place + 1 → ((entry_at ends (place - 1)).vertex ≡ (entry_at ends place).vertex → (entry_at ends (place - 1)).far ≡ (entry_at ends place).far → ⊥)
    → IsLeastNeighbour ends place found → IsLeastNeighbour ends next found
neighbour_none ends place next found step apart h =
    MatchOption-weaker found h
    (λ none k l e. elim (cases_lt (suc k) place) [ inl less ↦ none k less e | inr last ↦ absurd (here k (omega (arith, l, step, last)) e) ])
    (λ dart low. record {
      place = low.place;
      before = let b = low.before in omega (arith, b, step);
      within = low.within;
      equal = low.equal;
      is_dart = low.is_dart;
      least = λ k l e. elim (cases_lt (suc k) place) [ inl less ↦ low.least k less e | inr last ↦ absurd (here k (omega (arith, l, step, last)) e) ];
    }) where
      here : (k : ℕ) → place ≡ suc k → HaveEqualEnds (entry_at ends k) (entry_at ends (suc k)) → ⊥
      here k at e =
          let back : k ≡ place - 1 = omega (arith, at) in
          let near = subst (λ i. (entry_at ends i).vertex ≡ (entry_at ends (suc k)).vertex) back e.near in
          let far = subst (λ i. (entry_at ends i).far ≡ (entry_at ends (suc k)).far) back e.far in
          apart (near ∙ ap (λ i. (entry_at ends i).vertex) (sym at)) (far ∙ ap (λ i. (entry_at ends i).far) (sym at))

-- among grouped entries, those are all
pub neighbours_all : (ends : List Ends) (bound : ℕ) (found : Option ℕ) → AreGrouped ends → length ends ≤ bound → IsLeastNeighbour ends bound found → MatchOption found (AreApart ends) (IsLeastRepeated ends)
neighbours_all ends bound found grouped all h = MatchOption-weaker found h
    (λ none j k l within equal. none j (omega arith) (grouped j (suc j) k (omega arith) (omega arith) within equal))
    (λ dart low. elim low.is_dart [
      | inl first ↦ record {
        place = low.place;
        other = suc low.place;
        within = let w = low.within in omega (arith, w);
        other_within = low.within;
        differs = λ e. omega (arith, e);
        equal = low.equal;
        is_dart = first;
        least = lowest dart low;
      }
      | inr second ↦ record {
        place = suc low.place;
        other = low.place;
        within = low.within;
        other_within = let w = low.within in omega (arith, w);
        differs = λ e. omega (arith, e);
        equal = equal-turned (entry_at ends low.place) (entry_at ends (suc low.place)) low.equal;
        is_dart = second;
        least = lowest dart low;
      }
    ]) where
      before : (dart : ℕ) → IsLowest ends bound dart → (j k : ℕ) → k < j → j < length ends → HaveEqualEnds (entry_at ends j) (entry_at ends k) → dart ≤ (entry_at ends j).dart
      before dart low zero k less within equal = absurd (omega arith)
      before dart low (suc j) k less within equal =
          let turned = equal-turned (entry_at ends (suc j)) (entry_at ends k) equal in
          let same = grouped k j (suc j) (omega arith) (omega arith) within turned in
          (low.least j (omega arith) (equal-through (entry_at ends k) (entry_at ends j) (entry_at ends (suc j)) same turned)).1

      lowest : (dart : ℕ) → IsLowest ends bound dart → (j k : ℕ) → j < length ends → k < length ends → j ≢ k → HaveEqualEnds (entry_at ends j) (entry_at ends k) → dart ≤ (entry_at ends j).dart
      lowest dart low j k j_in k_in differ equal = elim (cases_order j k) [
        | inl same ↦ absurd (differ same)
        | inr apart ↦ elim apart [
          | inl less ↦ (low.least j (omega arith) (grouped j (suc j) k (omega arith) (omega arith) k_in equal)).0
          | inr more ↦ before dart low j k more j_in equal
        ]
      ]

-- the entries of all darts, in any order
same_dart : Ends → Ends → Bool
same_dart a b = nat_eq a.dart b.dart

record AreAll (leaders : List ℕ) (ends : List Ends) : Type 0 where
  each : All (λ e. (e.dart < length leaders) × (e ≡ ends_of leaders e.dart)) ends
  all : (d : ℕ) → d < length leaders → Contains ends (ends_of leaders d)
  distinct : IsDistinct same_dart ends

all-listed : (leaders : List ℕ) (ends : List Ends) → AreListed leaders ends → AreAll leaders ends
unfolding same_dart
all-listed leaders ends l =
    let o : Ends = record { vertex = 0; far = 0; dart = 0 } in
    let entry : (k : ℕ) (p : Ends) → k < length ends → get_or ends k p ≡ ends_of leaders k = λ k p h. get_or_default ends k p o h ∙ l.each k (omega (arith, h, l.same_length)) in
    record {
      each = λ k p h.
          let is = entry k p h in
          let dart : (get_or ends k p).dart ≡ k = ap (λ e. e.dart) is in
          (omega (arith, dart, h, l.same_length), is ∙ ap (ends_of leaders) (sym dart));
      all = λ d h. (d, omega (arith, h, l.same_length), entry d (ends_of leaders d) (omega (arith, h, l.same_length)));
      distinct = IsDistinct-from_apart same_dart ends (λ i j p less within.
          let a = ap (λ e. e.dart) (entry i p (omega arith)) in
          let b = ap (λ e. e.dart) (entry j p within) in
          ne_eqb (get_or ends i p).dart (get_or ends j p).dart (λ e. omega (arith, a, b, e, less)));
    }

same_dart-flips : (x y : Ends) → same_dart x y ≡ same_dart y x
unfolding same_dart
same_dart-flips x y = flips x.dart y.dart where
  flips : (a b : ℕ) → nat_eq a b ≡ nat_eq b a
  flips a b = grind arith

all-permuted : (leaders : List ℕ) (xs ys : List Ends) → IsPermutation xs ys → AreAll leaders xs → AreAll leaders ys
all-permuted leaders xs ys p a = record {
  each = All-permutation (λ e. (e.dart < length leaders) × (e ≡ ends_of leaders e.dart)) xs ys p a.each;
  all = λ d h. Contains-permutation xs ys (ends_of leaders d) p (a.all d h);
  distinct = IsDistinct-IsPermutation same_dart same_dart-flips xs ys p a.distinct;
}

-- Darts of a map, by the leaders of their vertices: loops, and doubles by their entries.
module _ (m : RotationSystem) (leaders : List ℕ) (even : length m.sigma % 2 ≡ 0) (permutes : IsPermutationList m.sigma) (led : IsLeaderList m.sigma leaders) where
  lead : ℕ → ℕ
  lead = leader (length m.sigma) (slice_index m.sigma)

  loop-led : (d : ℕ) → d < length m.sigma → IsLoop (structure_of m) d → slice_index leaders d ≡ slice_index leaders (twin d)
  loop-led d h loop =
      led.leads d h ∙ in_cycle-leader (length m.sigma) (slice_index m.sigma) permutes d (twin d) h loop ∙ sym (led.leads (twin d) (twin_stays (length m.sigma) d even h))

  led-loop : (d : ℕ) → d < length m.sigma → slice_index leaders d ≡ slice_index leaders (twin d) → IsLoop (structure_of m) d
  led-loop d h same =
      let stays = twin_stays (length m.sigma) d even h in
      leader-in_cycle (length m.sigma) (slice_index m.sigma) permutes d (twin d) h stays (sym (led.leads d h) ∙ same ∙ led.leads (twin d) stays)

  pub loops-found : (found : Option ℕ)
      → MatchOption found ((d : ℕ) → d < length leaders → slice_index leaders d ≢ slice_index leaders (twin d)) (IsLeast (length leaders) (λ d. slice_index leaders d ≢ slice_index leaders (twin d)) (λ d. slice_index leaders d ≡ slice_index leaders (twin d)))
      → MatchOption found (HasNoLoop (structure_of m)) (IsLeastLoop (structure_of m))
  loops-found found h =
      let long = led.same_length in
      MatchOption-weaker found h (λ none d l loop. none d (omega (arith, l, long)) (loop-led d l loop)) (λ d least.
      let within : d < length m.sigma = (let w = least.within in omega (arith, w, long)) in
      record { within = within; breaks = led-loop d within least.breaks; least = λ e less loop. least.least e less (loop-led e (omega arith) loop) })

  -- the entry of a dart
  record HasEntry (ends : List Ends) (d : ℕ) : Type 0 where
    place : ℕ
    inside : place < length ends
    is : entry_at ends place ≡ ends_of leaders d

  entry-of : (ends : List Ends) → AreAll leaders ends → (d : ℕ) → d < length m.sigma → HasEntry ends d
  entry-of ends a d h =
      let found = a.all d (let long = led.same_length in omega (arith, h, long)) in
      record { place = found.0; inside = found.1; is = get_or_default ends found.0 (record { vertex = 0; far = 0; dart = 0 }) (ends_of leaders d) found.1 ∙ found.2 }

  -- a double and its other dart have entries with equal ends
  record HasRepeated (ends : List Ends) (d : ℕ) : Type 0 where
    first : ℕ
    second : ℕ
    first_in : first < length ends
    second_in : second < length ends
    differ : first ≢ second
    equal : HaveEqualEnds (entry_at ends first) (entry_at ends second)
    is_dart : (entry_at ends first).dart ≡ d

  double-repeated : (ends : List Ends) → AreAll leaders ends → (d : ℕ) → d < length m.sigma → IsDouble (structure_of m) d → HasRepeated ends d
  double-repeated ends a d h double =
      let n : ℕ = length m.sigma in
      let f : ℕ → ℕ = slice_index m.sigma in
      let here = entry-of ends a d h in
      let there = entry-of ends a double.other double.within in
      let here_is = here.is in
      let there_is = there.is in
      let near : slice_index leaders d ≡ slice_index leaders double.other = led.leads d h ∙ in_cycle-leader n f permutes d double.other h double.near ∙ sym (led.leads double.other double.within) in
      let far : slice_index leaders (twin d) ≡ slice_index leaders (twin double.other) =
      led.leads (twin d) (twin_stays n d even h) ∙ in_cycle-leader n f permutes (twin d) (twin double.other) (twin_stays n d even h) double.far
      ∙ sym (led.leads (twin double.other) (twin_stays n double.other even double.within)) in
      record {
        first = here.place;
        second = there.place;
        first_in = here.inside;
        second_in = there.inside;
        differ = λ same. double.differs (sym (ap (λ e. e.dart) there_is) ∙ sym (ap (λ i. (entry_at ends i).dart) same) ∙ ap (λ e. e.dart) here_is);
        equal = record {
          near = ap (λ e. e.vertex) here_is ∙ near ∙ sym (ap (λ e. e.vertex) there_is);
          far = ap (λ e. e.far) here_is ∙ far ∙ sym (ap (λ e. e.far) there_is);
        };
        is_dart = ap (λ e. e.dart) here_is;
      }

  -- and two entries with equal ends are those of doubles
  repeated-double : (ends : List Ends) → AreAll leaders ends → (j k : ℕ) → j < length ends → k < length ends → k ≢ j → HaveEqualEnds (entry_at ends j) (entry_at ends k)
      → ((entry_at ends j).dart < length m.sigma) × IsDouble (structure_of m) (entry_at ends j).dart
  unfolding same_dart
  repeated-double ends a j k j_in k_in differ equal =
      let n : ℕ = length m.sigma in
      let f : ℕ → ℕ = slice_index m.sigma in
      let o : Ends = record { vertex = 0; far = 0; dart = 0 } in
      let long = led.same_length in
      let d : ℕ = (entry_at ends j).dart in
      let e : ℕ = (entry_at ends k).dart in
      let here = a.each j o j_in in
      let there = a.each k o k_in in
      let d_in : d < n = (let w = here.0 in omega (arith, w, long)) in
      let e_in : e < n = (let w = there.0 in omega (arith, w, long)) in
      let near : slice_index leaders d ≡ slice_index leaders e = sym (ap (λ x. x.vertex) here.1) ∙ equal.near ∙ ap (λ x. x.vertex) there.1 in
      let far : slice_index leaders (twin d) ≡ slice_index leaders (twin e) = sym (ap (λ x. x.far) here.1) ∙ equal.far ∙ ap (λ x. x.far) there.1 in
      let twin_d = twin_stays n d even d_in in
      let twin_e = twin_stays n e even e_in in (
        d_in,
        record {
          other = e;
          within = e_in;
          differs = λ same. elim (cases_order j k) [
            | inl here' ↦ differ (sym here')
            | inr apart ↦ elim apart [
              | inl less ↦ false≢true (sym (apart_from_distinct same_dart ends j k o a.distinct less k_in) ∙ eq-eqb d e (sym same))
              | inr more ↦ false≢true (sym (apart_from_distinct same_dart ends k j o a.distinct more j_in) ∙ eq-eqb e d same)
            ]
          ];
          near = leader-in_cycle n f permutes d e d_in e_in (sym (led.leads d d_in) ∙ near ∙ led.leads e e_in);
          far = leader-in_cycle n f permutes (twin d) (twin e) twin_d twin_e (sym (led.leads (twin d) twin_d) ∙ far ∙ led.leads (twin e) twin_e);
        },
      )

  pub doubles-found : (ends sorted : List Ends) (found : Option ℕ) → AreListed leaders ends → IsPermutation ends sorted → MatchOption found (AreApart sorted) (IsLeastRepeated sorted)
      → MatchOption found (HasNoDouble (structure_of m)) (IsLeastDouble (structure_of m))
  doubles-found ends sorted found listed permuted h =
      let a : AreAll leaders sorted = all-permuted leaders ends sorted permuted (all-listed leaders ends listed) in
      MatchOption-weaker found h (λ none d l double.
      let r = double-repeated sorted a d l double in
      elim (cases_order r.first r.second) [
        | inl same ↦ r.differ same
        | inr apart ↦ elim apart [ inl less ↦ none r.first r.second less r.second_in r.equal | inr more ↦ none r.second r.first more r.first_in (equal-turned (entry_at sorted r.first) (entry_at sorted r.second) r.equal) ]
      ]) (λ dart low.
      let is = low.is_dart in
      let double = repeated-double sorted a low.place low.other low.within low.other_within low.differs low.equal in
      let within : dart < length m.sigma = (let w = double.0 in omega (arith, w, is)) in
      record {
        within = within;
        breaks = subst (IsDouble (structure_of m)) is double.1;
        least = λ e less other.
            let r = double-repeated sorted a e (omega arith) other in
            let bound = low.least r.first r.second r.first_in r.second_in r.differ r.equal in
            let at = r.is_dart in
            omega (arith, bound, at, less);
      })
