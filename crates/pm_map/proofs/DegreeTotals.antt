-- The darts at vertices of a degree are so many times the vertices of the degree.
use Rattle.std.proofs.Common.{◌≡◌, ℕ, zero, suc, ◌+◌, ◌*◌, ◌<◌, ◌≤◌, ◌&&◌, Bool, true, false, inl, inr, ltb, nat_eq, refl, sym, ◌∙◌, ap, arith}
use Rattle.std.proofs.lemmas.Bool.{cases_eq, cases_lt, cases_Bool, lt-ltb, le-ltb, eq-eqb, ne_eqb, eqb-true}
use Rattle.pm_perm.specs.Count.{count_below}
use Rattle.pm_perm.specs.Cycles.{leader, cycles}
use Rattle.pm_perm.proofs.Counts.{count_below-all, count_below-none, count_below-same, count_below-split}
use Rattle.pm_perm.proofs.LeaderMaps.{leader-map, leader_map-inside, leader_map-twice}
use Rattle.pm_map.specs.Structure.{Structure, IsStructure}
use Rattle.pm_map.specs.CycleSize.{IsCycleSize}
use Rattle.pm_map.specs.Classes.{degree_of}
use Rattle.pm_map.proofs.DegreeCounts.{degree_counts_darts}

both_true : (a b : Bool) → a ≡ true → (a && b) ≡ b
both_true a b e = rw e refl

second_true : (a b : Bool) → b ≡ true → (a && b) ≡ a
second_true true b e = e
second_true false b e = refl

first_false : (a b : Bool) → a ≡ false → (a && b) ≡ false
first_false a b e = rw e refl

second_false : (a b : Bool) → b ≡ false → (a && b) ≡ false
second_false true b e = e
second_false false b e = refl

-- the numbers of a kind that are led below a bound, where each leader of the kind leads as many, all of the kind
module _ (n size : ℕ) (lead : ℕ → ℕ) (has : ℕ → Bool) (inside : (k : ℕ) → k < n → lead k < n) (twice : (k : ℕ) → k < n → lead (lead k) ≡ lead k)
    (kept : (k : ℕ) → k < n → has (lead k) ≡ has k) (each : (d : ℕ) → d < n → has d ≡ true → count_below (λ e. nat_eq (lead e) (lead d)) n ≡ size) where
  led : ℕ → ℕ
  led m = count_below (λ e. has e && ltb (lead e) m) n

  led_by : ℕ → ℕ
  led_by m = count_below (λ e. has e && nat_eq (lead e) m) n

  led_more : (m : ℕ) → led (suc m) ≡ led m + led_by m
  unfolding led led_by
  led_more m = sym (count_below-split (λ e. has e && ltb (lead e) m) (λ e. has e && nat_eq (lead e) m) (λ e. has e && ltb (lead e) (suc m)) n (λ k less. elim (cases_Bool (has k)) [
    | inl of_kind ↦ elim (cases_lt (lead k) m) [
      | inl below ↦
          inl (
            both_true (has k) (ltb (lead k) m) of_kind ∙ lt-ltb (lead k) m below ∙ sym (both_true (has k) (ltb (lead k) (suc m)) of_kind ∙ lt-ltb (lead k) (suc m) (omega arith)),
            second_false (has k) (nat_eq (lead k) m) (ne_eqb (lead k) m (λ same. absurd (omega arith))),
          )
      | inr above ↦ elim (cases_eq (lead k) m) [
        | inl same ↦
            inr (
              second_false (has k) (ltb (lead k) m) (le-ltb (lead k) m above),
              both_true (has k) (nat_eq (lead k) m) of_kind ∙ eq-eqb (lead k) m same ∙ sym (both_true (has k) (ltb (lead k) (suc m)) of_kind ∙ lt-ltb (lead k) (suc m) (omega arith)),
            )
        | inr other ↦
            inl (
              second_false (has k) (ltb (lead k) m) (le-ltb (lead k) m above) ∙ sym (second_false (has k) (ltb (lead k) (suc m)) (le-ltb (lead k) (suc m) (omega (arith, other, above)))),
              second_false (has k) (nat_eq (lead k) m) (ne_eqb (lead k) m other),
            )
      ]
    ]
    | inr of_no ↦ inl (first_false (has k) (ltb (lead k) m) of_no ∙ sym (first_false (has k) (ltb (lead k) (suc m)) of_no), first_false (has k) (nat_eq (lead k) m) of_no)
  ]))

  by_leader : (m : ℕ) → m < n → lead m ≡ m → has m ≡ true → led_by m ≡ size
  unfolding led_by
  by_leader m less leads of_kind =
      count_below-same (λ e. has e && nat_eq (lead e) m) (λ e. nat_eq (lead e) m) n (λ k below. elim (cases_eq (lead k) m) [
        | inl same ↦ both_true (has k) (nat_eq (lead k) m) (sym (kept k below) ∙ ap has same ∙ of_kind)
        | inr other ↦ second_false (has k) (nat_eq (lead k) m) (ne_eqb (lead k) m other) ∙ sym (ne_eqb (lead k) m other)
      ])
      ∙ ap (λ (k : ℕ). count_below (λ e. nat_eq (lead e) k) n) (sym leads) ∙ each m less of_kind

  by_no : (m : ℕ) → has m ≡ false → led_by m ≡ 0
  unfolding led_by
  by_no m of_no = count_below-none (λ e. has e && nat_eq (lead e) m) n (λ k less. elim (cases_eq (lead k) m) [
    | inl same ↦ first_false (has k) (nat_eq (lead k) m) (sym (kept k less) ∙ ap has same ∙ of_no)
    | inr other ↦ second_false (has k) (nat_eq (lead k) m) (ne_eqb (lead k) m other)
  ])

  by_other : (m : ℕ) → (lead m ≡ m → ⊥) → led_by m ≡ 0
  unfolding led_by
  by_other m other = count_below-none (λ e. has e && nat_eq (lead e) m) n (λ k less. second_false (has k) (nat_eq (lead k) m) (ne_eqb (lead k) m (λ same. other (sym (ap lead same) ∙ twice k less ∙ same))))

  led_none : led 0 ≡ size * 0
  unfolding led
  led_none = count_below-none (λ e. has e && ltb (lead e) 0) n (λ k less. second_false (has k) (ltb (lead k) 0) (le-ltb (lead k) 0 (omega arith))) ∙ (let e : 0 ≡ size * 0 = omega arith in e)

  leaders : ℕ → ℕ
  leaders m = count_below (λ d. nat_eq (lead d) d && has d) m

  no_leaders : leaders 0 ≡ 0
  unfolding leaders
  no_leaders = refl

  leaders_more : (m : ℕ) → lead m ≡ m → has m ≡ true → leaders (suc m) ≡ leaders m + 1
  unfolding leaders
  leaders_more m leads of_kind = let test = both_true (nat_eq (lead m) m) (has m) (eq-eqb (lead m) m leads) ∙ of_kind in rw test refl

  leaders_same : (m : ℕ) → (nat_eq (lead m) m && has m) ≡ false → leaders (suc m) ≡ leaders m
  unfolding leaders
  leaders_same m test = rw test (let e : count_below (λ d. nat_eq (lead d) d && has d) m + 0 ≡ count_below (λ d. nat_eq (lead d) d && has d) m = omega arith in e)

  led_times : (m : ℕ) → m ≤ n → led m ≡ size * leaders m
  led_times zero few = led_none ∙ sym (ap (λ (k : ℕ). size * k) no_leaders)
  led_times (suc m) few = elim (cases_eq (lead m) m) [
    | inl leads ↦ elim (cases_Bool (has m)) [
      | inl of_kind ↦ more (leaders m) (led_times m (omega arith)) (by_leader m (omega arith) leads of_kind) (leaders_more m leads of_kind)
      | inr of_no ↦ same (leaders m) (led_times m (omega arith)) (by_no m of_no) (leaders_same m (second_false (nat_eq (lead m) m) (has m) of_no))
    ]
    | inr other ↦ same (leaders m) (led_times m (omega arith)) (by_other m other) (leaders_same m (first_false (nat_eq (lead m) m) (has m) (ne_eqb (lead m) m other)))
  ] where
    more : (count : ℕ) → led m ≡ size * count → led_by m ≡ size → leaders (suc m) ≡ count + 1 → led (suc m) ≡ size * leaders (suc m)
    more count before here next =
        let e : size * count + size ≡ size * (count + 1) = omega arith in
        let f : led (suc m) ≡ size * (count + 1) = led_more m ∙ omega (arith, before, here, e) in
        f ∙ sym (ap (λ (k : ℕ). size * k) next)

    same : (count : ℕ) → led m ≡ size * count → led_by m ≡ 0 → leaders (suc m) ≡ count → led (suc m) ≡ size * leaders (suc m)
    same count before here next =
        let f : led (suc m) ≡ size * count = led_more m ∙ omega (arith, before, here) in
        f ∙ sym (ap (λ (k : ℕ). size * k) next)

  all_led : size * count_below (λ d. nat_eq (lead d) d && has d) n ≡ count_below has n
  unfolding led leaders
  all_led = sym (led_times n (omega arith)) ∙ count_below-same (λ e. has e && ltb (lead e) n) has n (λ k less. second_true (has k) (ltb (lead k) n) (lt-ltb (lead k) n (inside k less)))

-- the darts at vertices of a degree are the degree times these vertices
pub darts_at_degree : (s : Structure) (degree : ℕ) → IsStructure s
    → degree * count_below (λ d. nat_eq (leader s.darts s.next d) d && nat_eq (degree_of s d) degree) s.darts ≡ count_below (λ d. nat_eq (degree_of s d) degree) s.darts
darts_at_degree s degree is =
    let map = leader-map s.darts s.next is.rotation in
    all_led s.darts degree (leader s.darts s.next) (λ d. nat_eq (degree_of s d) degree)
    (λ k less. leader_map-inside s.darts s.next (leader s.darts s.next) map k less)
    (λ k less. leader_map-twice s.darts s.next (leader s.darts s.next) map k less)
    (λ k less. ap (λ (l : ℕ). nat_eq (count_below (λ e. nat_eq (leader s.darts s.next e) l) s.darts) degree) (leader_map-twice s.darts s.next (leader s.darts s.next) map k less))
    (λ d less of_degree. eqb-true (degree_of s d) degree of_degree)

-- where each vertex has the degree, all darts are the degree times the vertices
pub darts_of_degree : (s : Structure) (degree : ℕ) → IsStructure s → ((d : ℕ) → d < s.darts → IsCycleSize s.next d degree) → degree * cycles s.darts s.next ≡ s.darts
darts_of_degree s degree is sizes =
    let has : (d : ℕ) → d < s.darts → nat_eq (degree_of s d) degree ≡ true = λ d less. eq-eqb (degree_of s d) degree ((degree_counts_darts s d degree is less).0 (sizes d less)) in
    let same = count_below-same (λ d. nat_eq (leader s.darts s.next d) d && nat_eq (degree_of s d) degree) (λ d. nat_eq (leader s.darts s.next d) d) s.darts
    (λ d less. second_true (nat_eq (leader s.darts s.next d) d) (nat_eq (degree_of s d) degree) (has d less)) in
    ap (λ (k : ℕ). degree * k) (sym same) ∙ darts_at_degree s degree is ∙ count_below-all (λ d. nat_eq (degree_of s d) degree) s.darts has
