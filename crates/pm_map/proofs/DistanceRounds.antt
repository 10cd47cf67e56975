-- Each face of a connected structure has a distance: the faces that are led to by so many darts at most, round by round.
use Rattle.std.proofs.Common.{◌≡◌, ℕ, zero, suc, ◌+◌, ◌<◌, ◌≤◌, ◌⊎◌, inl, inr, Bool, true, false, not, ◌&&◌, ◌||◌, eqb, ltb, List, [], ◌∷◌, ◌++◌, length, refl, sym, ap, ◌∙◌, subst, length-append, lt-ltb, eq-eqb, arith}
use Rattle.std.proofs.lemmas.Bool.{cases_Bool, cases_lt, cases_eq, true≢false, ltb-true, eqb-true, and_parts, and_from, or_cases, or_left, or_right}
use Rattle.pm_perm.specs.Count.{count_below}
use Rattle.pm_perm.specs.Cycles.{leader}
use Rattle.pm_perm.proofs.Counts.{count_below-bound, count_below-split, one_passes, some_pass}
use Rattle.pm_perm.proofs.SameCycle.{in_cycle-leader, leader-in_cycle}
use Rattle.pm_map.specs.Structure.{Structure, IsStructure, IsClosedSet, IsConnected, face_next}
use Rattle.pm_map.specs.FaceDistance.{AreInOneFace, LeadsOver, IsFaceDistance}
use Rattle.pm_map.specs.DistanceLaws.{EachFaceHasDistance}
use Rattle.pm_map.proofs.CarriedStructure.{face_permutes}
use Rattle.pm_map.proofs.DistanceLemmas.{leads-around, leads-on}

-- tests of which each passes what the one before it passes
record AreGrowing (P : ℕ → ℕ → Bool) : Type 0 where
  keeps : (k d : ℕ) → P k d ≡ true → P (suc k) d ≡ true

-- the test after this one passes no more of the numbers below the bound
record IsSettledAt (P : ℕ → ℕ → Bool) (n k : ℕ) : Type 0 where
  settled : (d : ℕ) → d < n → P (suc k) d ≡ true → P k d ≡ true

settled_or_more : (P : ℕ → ℕ → Bool) (n k : ℕ) → AreGrowing P → IsSettledAt P n k ⊎ (count_below (P k) n < count_below (P (suc k)) n)
settled_or_more P n k grows = elim (cases_lt 0 (count_below (λ d. P (suc k) d && not (P k d)) n)) [
  | inl some ↦ inr (omega (arith, some, count_below-split (P k) (λ d. P (suc k) d && not (P k d)) (P (suc k)) n (λ d h. parts (P k d) (P (suc k) d) (grows.keeps k d))))
  | inr none ↦ inl (record {
    settled = λ d h next. elim (cases_Bool (P k d)) [
      | inl here ↦ here
      | inr fails ↦
          let new : (P (suc k) d && not (P k d)) ≡ true = and_from (P (suc k) d) (not (P k d)) next (ap not fails) in
          absurd (omega (arith, none, some_pass (λ e. P (suc k) e && not (P k e)) d n h new))
    ];
  })
] where
  parts : (a b : Bool) → (a ≡ true → b ≡ true) → ((a ≡ b) × ((b && not a) ≡ false)) ⊎ ((a ≡ false) × ((b && not a) ≡ b))
  parts true b keeps = inl (sym (keeps refl), rw (keeps refl) refl)
  parts false true keeps = inr (refl, refl)
  parts false false keeps = inr (refl, refl)

settled_before : (P : ℕ → ℕ → Bool) (n : ℕ) → AreGrowing P → (k : ℕ) → ((j : ℕ) × IsSettledAt P n j) ⊎ (k ≤ count_below (P k) n)
settled_before P n grows zero = inr (omega arith)
settled_before P n grows (suc k) = elim (settled_before P n grows k) [
  | inl found ↦ inl found
  | inr counted ↦ elim (settled_or_more P n k grows) [ inl settled ↦ inl (k, settled) | inr more ↦ inr (omega (arith, counted, more)) ]
]

-- growing tests of the numbers below a bound settle
settles : (P : ℕ → ℕ → Bool) (n : ℕ) → AreGrowing P → (j : ℕ) × IsSettledAt P n j
settles P n grows = elim (settled_before P n grows (suc n)) [
  | inl found ↦ found
  | inr counted ↦ absurd (omega (arith, counted, count_below-bound (P (suc n)) n))
]

-- the least number that passes
pub record IsLeastPassing (P : ℕ → Bool) (k : ℕ) : Type 0 where
  pub passes : P k ≡ true
  pub least : (j : ℕ) → P j ≡ true → k ≤ j

least_or_none : (P : ℕ → Bool) (bound : ℕ) → ((k : ℕ) × IsLeastPassing P k) ⊎ ((k : ℕ) → k < bound → P k ≡ true → ⊥)
least_or_none P zero = inr (λ k h passes. (let none : k < 0 = h in omega arith))
least_or_none P (suc bound) = elim (least_or_none P bound) [
  | inl found ↦ inl found
  | inr none ↦ elim (cases_Bool (P bound)) [
    | inl here ↦ inl (
      bound,
      record {
        passes = here;
        least = λ j passes. elim (cases_lt j bound) [ inl less ↦ absurd (none j less passes) | inr more ↦ more ];
      },
    )
    | inr fails ↦ inr (λ k h passes. elim (cases_eq k bound) [
      | inl same ↦ true≢false (sym (subst (λ x. P x ≡ true) same passes) ∙ fails)
      | inr differs ↦ none k (omega (arith, h, differs)) passes
    ])
  ]
]

pub least_passing : (P : ℕ → Bool) (k : ℕ) → P k ≡ true → (j : ℕ) × IsLeastPassing P j
least_passing P k passes = elim (least_or_none P (suc k)) [ inl found ↦ found | inr none ↦ absurd (none k (omega arith) passes) ]

-- the least dart of a face
face_leader : Structure → ℕ → ℕ
face_leader s d = leader s.darts (face_next s) d

-- the face of d is led to from the root's face by so many darts at most
is_within : Structure → ℕ → ℕ → Bool
is_within s zero d = eqb (face_leader s s.root) (face_leader s d)
is_within s (suc count) d = is_within s count d || ltb 0 (count_below (λ x. is_within s count x && eqb (face_leader s (s.twin x)) (face_leader s d)) s.darts)

is_within-grows : (s : Structure) → AreGrowing (is_within s)
unfolding is_within
is_within-grows s = record {
  keeps = λ count d passes. or_left (is_within s count d) (ltb 0 (count_below (λ x. is_within s count x && eqb (face_leader s (s.twin x)) (face_leader s d)) s.darts)) passes;
}

is_within-root : (s : Structure) (count : ℕ) → is_within s count s.root ≡ true
unfolding is_within
is_within-root s zero = eq-eqb (face_leader s s.root) (face_leader s s.root) refl
is_within-root s (suc count) = (is_within-grows s).keeps count s.root (is_within-root s count)

-- it is the same for the darts of a face
is_within-led : (s : Structure) (count d e : ℕ) → face_leader s d ≡ face_leader s e → is_within s count d ≡ is_within s count e
unfolding is_within
is_within-led s zero d e same = ap (λ x. eqb (face_leader s s.root) x) same
is_within-led s (suc count) d e same =
    ap (λ b. b || ltb 0 (count_below (λ x. is_within s count x && eqb (face_leader s (s.twin x)) (face_leader s d)) s.darts)) (is_within-led s count d e same)
    ∙ ap (λ y. is_within s count e || ltb 0 (count_below (λ x. is_within s count x && eqb (face_leader s (s.twin x)) y) s.darts)) same

is_within-around : (s : Structure) (count d e : ℕ) → IsStructure s → d < s.darts → AreInOneFace s d e → is_within s count d ≡ true → is_within s count e ≡ true
unfolding face_leader
is_within-around s count d e is h one passes =
    sym (is_within-led s count d e (in_cycle-leader s.darts (face_next s) (face_permutes s is) d e h one)) ∙ passes

is_within-across : (s : Structure) (count d : ℕ) → d < s.darts → is_within s count d ≡ true → is_within s (suc count) (s.twin d) ≡ true
unfolding is_within
is_within-across s count d h passes =
    let test : ℕ → Bool = λ x. is_within s count x && eqb (face_leader s (s.twin x)) (face_leader s (s.twin d)) in
    let here : (is_within s count d && eqb (face_leader s (s.twin d)) (face_leader s (s.twin d))) ≡ true =
    and_from (is_within s count d) (eqb (face_leader s (s.twin d)) (face_leader s (s.twin d))) passes (eq-eqb (face_leader s (s.twin d)) (face_leader s (s.twin d)) refl) in
    or_right (is_within s count (s.twin d)) (ltb 0 (count_below test s.darts)) (lt-ltb 0 (count_below test s.darts) (some_pass test d s.darts h here))

-- what is led to passes
leads-within : (s : Structure) (count a d : ℕ) (over : List ℕ) → IsStructure s → a < s.darts → is_within s count a ≡ true → LeadsOver s a d over → is_within s (count + length over) d ≡ true
leads-within s count a d [] is h passes leads =
    let e : count ≡ count + 0 = omega arith in
    subst (λ k. is_within s k d ≡ true) e (is_within-around s count a d is h leads passes)
leads-within s count a d (dart ∷ over) is h passes leads =
    let e : suc count + length over ≡ count + length (dart ∷ over) = omega arith in
    let here : is_within s count dart ≡ true = is_within-around s count a dart is h leads.1 passes in
    subst (λ k. is_within s k d ≡ true) e
    (leads-within s (suc count) (s.twin dart) d over is (is.twin_stays dart leads.0) (is_within-across s count dart leads.0 here) leads.2)

-- and what passes is led to
record IsLedWithin (s : Structure) (d count : ℕ) : Type 0 where
  over : List ℕ
  leads : LeadsOver s s.root d over
  few : length over ≤ count

within-leads : (s : Structure) (count d : ℕ) → IsStructure s → d < s.darts → is_within s count d ≡ true → IsLedWithin s d count
unfolding is_within face_leader
within-leads s zero d is h passes =
    let root : s.root < s.darts = is.root_stays (omega arith) in
    let one : AreInOneFace s s.root d = leader-in_cycle s.darts (face_next s) (face_permutes s is) s.root d root h (eqb-true (face_leader s s.root) (face_leader s d) passes) in
    record { over = []; leads = one; few = omega arith }
within-leads s (suc count) d is h passes =
    let test : ℕ → Bool = λ x. is_within s count x && eqb (face_leader s (s.twin x)) (face_leader s d) in
    elim (or_cases (is_within s count d) (ltb 0 (count_below test s.darts)) passes) [
      | inl before ↦
          let led : IsLedWithin s d count = within-leads s count d is h before in
          record { over = led.over; leads = led.leads; few = omega (arith, led.few) }
      | inr new ↦
          let found = one_passes test s.darts (ltb-true 0 (count_below test s.darts) new) in
          let x : ℕ = found.0 in
          let inside : x < s.darts = found.1 in
          let parts = and_parts (is_within s count x) (eqb (face_leader s (s.twin x)) (face_leader s d)) found.2 in
          let led : IsLedWithin s x count = within-leads s count x is inside parts.0 in
          let one : AreInOneFace s (s.twin x) d =
          leader-in_cycle s.darts (face_next s) (face_permutes s is) (s.twin x) d (is.twin_stays x inside) h (eqb-true (face_leader s (s.twin x)) (face_leader s d) parts.1) in
          record {
            over = led.over ++ x ∷ [];
            leads = leads-around s s.root (s.twin x) d (led.over ++ x ∷ []) one (leads-on s s.root x led.over inside led.leads);
            few = omega (arith, length-append led.over (x ∷ []), led.few);
          }
    ]

-- the least number of rounds is the distance
distance_from_rounds : (s : Structure) (d count : ℕ) → IsStructure s → d < s.darts → IsLeastPassing (λ k. is_within s k d) count → IsFaceDistance s s.root d count
distance_from_rounds s d count is h least =
    let root : s.root < s.darts = is.root_stays (omega arith) in
    let led : IsLedWithin s d count = within-leads s count d is h least.passes in
    let all : (others : List ℕ) → LeadsOver s s.root d others → count ≤ length others = λ others leads.
    least.least (length others) (subst (λ k. is_within s k d ≡ true) (let e : 0 + length others ≡ length others = omega arith in e)
    (leads-within s 0 s.root d others is root (is_within-root s 0) leads)) in
    record { over = led.over; leads = led.leads; counted = omega (arith, led.few, all led.over led.leads); least = all }

-- once they settle, the darts that pass are closed under rotation and twin
settled_closed : (s : Structure) (count : ℕ) → IsStructure s → IsSettledAt (is_within s) s.darts count → IsClosedSet s (is_within s count)
settled_closed s count is settled =
    let twin : (d : ℕ) → d < s.darts → is_within s count d ≡ true → is_within s count (s.twin d) ≡ true = λ d h passes.
    settled.settled (s.twin d) (is.twin_stays d h) (is_within-across s count d h passes) in
    record {
      under_next = λ d h passes.
          is_within-around s count (s.twin d) (s.next d) is (is.twin_stays d h) (record { steps = 1; leads = ap s.next (is.twin_back d h) }) (twin d h passes);
      under_twin = twin;
    }

has_distance : (s : Structure) → IsStructure s → IsConnected s → (d : ℕ) → d < s.darts → (count : ℕ) × IsFaceDistance s s.root d count
has_distance s is connected d h =
    let found = settles (is_within s) s.darts (is_within-grows s) in
    let passes : is_within s found.0 d ≡ true = connected (is_within s found.0) (is_within-root s found.0) (settled_closed s found.0 is found.1) d h in
    let least = least_passing (λ k. is_within s k d) found.0 passes in
    (least.0, distance_from_rounds s d least.0 is h least.1)

-- that distance, and 0 for what is no dart
distance_of : (s : Structure) → IsStructure s → IsConnected s → (d : ℕ) → (d < s.darts) ⊎ (s.darts ≤ d) → ℕ
distance_of s is connected d (inl h) = (has_distance s is connected d h).0
distance_of s is connected d (inr past) = 0

is_distance : (s : Structure) (is : IsStructure s) (connected : IsConnected s) (d : ℕ) (place : (d < s.darts) ⊎ (s.darts ≤ d))
    → d < s.darts → IsFaceDistance s s.root d (distance_of s is connected d place)
unfolding distance_of
is_distance s is connected d (inl h) below = (has_distance s is connected d h).1
is_distance s is connected d (inr past) below = absurd (omega arith)

-- in a connected structure each face has a distance from the root's face
pub each_face_has_distance : EachFaceHasDistance
each_face_has_distance s is connected =
    (λ d. distance_of s is connected d (cases_lt d s.darts), λ d h. is_distance s is connected d (cases_lt d s.darts) h)
