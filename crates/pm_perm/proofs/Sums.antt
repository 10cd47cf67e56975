-- Sums of values of the numbers below a bound, and over the cycles of a permutation.
use Rattle.std.proofs.Common.{◌≡◌, ℕ, zero, suc, ◌+◌, ◌%◌, ◌<◌, ◌⊎◌, Bool, true, cond, eqb, refl, ap, sym, ◌∙◌, inl, inr, arith, eq-eqb, ne_eqb}
use Rattle.std.proofs.lemmas.Bool.{cases_eq, cases_Bool, cond-true, cond-false}
use Rattle.pm_perm.specs.Count.{count_below}

-- the sum of the values of the numbers below n
abbrev pub sum_below : (ℕ → ℕ) → ℕ → ℕ
sum_below value zero = 0
sum_below value (suc n) = sum_below value n + value n

pub sum_below-same : (v w : ℕ → ℕ) (n : ℕ) → ((k : ℕ) → k < n → v k ≡ w k) → sum_below v n ≡ sum_below w n
sum_below-same v w zero h = refl
sum_below-same v w (suc n) h = let rest = sum_below-same v w n (λ k l. h k (omega arith)) in let here = h n (omega arith) in omega (arith, rest, here)

pub sum_below-none : (v : ℕ → ℕ) (n : ℕ) → ((k : ℕ) → k < n → v k ≡ 0) → sum_below v n ≡ 0
sum_below-none v zero h = refl
sum_below-none v (suc n) h = let rest = sum_below-none v n (λ k l. h k (omega arith)) in let here = h n (omega arith) in omega (arith, rest, here)

pub sum_below-plus : (v w : ℕ → ℕ) (n : ℕ) → sum_below (λ k. v k + w k) n ≡ sum_below v n + sum_below w n
sum_below-plus v w zero = refl
sum_below-plus v w (suc n) = let rest = sum_below-plus v w n in omega (arith, rest)

-- a count is the sum of one for each number that passes
pub count_below-sum : (passes : ℕ → Bool) (n : ℕ) → count_below passes n ≡ sum_below (λ k. cond (passes k) 1 0) n
count_below-sum passes zero = refl
count_below-sum passes (suc n) = let rest = count_below-sum passes n in omega (arith, rest)

-- the value of one number alone
pub sum_below-one : (c a n : ℕ) → a < n → sum_below (λ k. cond (eqb a k) c 0) n ≡ c
sum_below-one c a zero l = absurd (omega arith)
sum_below-one c a (suc n) l = elim (cases_eq a n) [
  | inl here ↦
      let before = sum_below-none (λ k. cond (eqb a k) c 0) n (λ k less. cond-false (eqb a k) c 0 (ne_eqb a k (λ e. omega arith))) in
      let last = cond-true (eqb a n) c 0 (eq-eqb a n here) in
      omega (arith, before, last)
  | inr other ↦
      let before = sum_below-one c a n (omega arith) in
      let last = cond-false (eqb a n) c 0 (ne_eqb a n other) in
      omega (arith, before, last)
]

-- rows and columns of a table have one sum
pub sum_below-swap : (f : ℕ → ℕ → ℕ) (n m : ℕ) → sum_below (λ i. sum_below (λ j. f i j) m) n ≡ sum_below (λ j. sum_below (λ i. f i j) n) m
sum_below-swap f zero m = sym (sum_below-none (λ j. 0) m (λ k l. refl))
sum_below-swap f (suc n) m =
    let rest = sum_below-swap f n m in
    let more = sum_below-plus (λ j. sum_below (λ i. f i j) n) (λ j. f n j) m in
    omega (arith, rest, more)

-- the sum of even values is even
pub sum_below-even : (v : ℕ → ℕ) (n : ℕ) → ((k : ℕ) → k < n → v k % 2 ≡ 0) → sum_below v n % 2 ≡ 0
sum_below-even v zero h = refl
sum_below-even v (suc n) h = let rest = sum_below-even v n (λ k l. h k (omega arith)) in let here = h n (omega arith) in omega (arith, rest, here)

-- the sum of the values of the numbers that have one leader
unfoldable pub led_sum : ℕ → (ℕ → ℕ) → (ℕ → ℕ) → ℕ → ℕ
led_sum n lead value m = sum_below (λ k. cond (eqb (lead k) m) (value k) 0) n

pub led_sum-is : (n : ℕ) (lead value : ℕ → ℕ) (m : ℕ) → led_sum n lead value m ≡ sum_below (λ k. cond (eqb (lead k) m) (value k) 0) n
unfolding led_sum
led_sum-is n lead value m = refl

-- a sum by leaders
pub sum_below-led : (n : ℕ) (lead value : ℕ → ℕ) → ((k : ℕ) → k < n → lead k < n) → sum_below value n ≡ sum_below (led_sum n lead value) n
unfolding led_sum
sum_below-led n lead value inside =
    sum_below-same value (λ k. sum_below (λ m. cond (eqb (lead k) m) (value k) 0) n) n (λ k l. sym (sum_below-one (value k) (lead k) n (inside k l)))
    ∙ sum_below-swap (λ k m. cond (eqb (lead k) m) (value k) 0) n n

-- the values of the numbers that pass
unfoldable pub chosen : (ℕ → Bool) → (ℕ → ℕ) → ℕ → ℕ
chosen passes value k = cond (passes k) (value k) 0

pub chosen-is : (passes : ℕ → Bool) (value : ℕ → ℕ) (k : ℕ) → chosen passes value k ≡ cond (passes k) (value k) 0
unfolding chosen
chosen-is passes value k = refl

-- a number is led by one that is its own leader and passes exactly where it does, as the leaders of cycles lead the numbers of
-- a set that a permutation keeps
pub record AreLed (n : ℕ) (lead : ℕ → ℕ) (passes : ℕ → Bool) : Type 0 where
  pub inside : (k : ℕ) → k < n → lead k < n
  pub twice : (k : ℕ) → k < n → lead (lead k) ≡ lead k
  pub kept : (k : ℕ) → k < n → passes (lead k) ≡ passes k

-- a leader that passes, with all that it leads
pub record LeadsAll (n : ℕ) (lead : ℕ → ℕ) (passes : ℕ → Bool) (m : ℕ) : Type 0 where
  pub is_leader : lead m ≡ m
  pub leader_passes : passes m ≡ true
  pub same : (value : ℕ → ℕ) → led_sum n lead (chosen passes value) m ≡ led_sum n lead value m

-- of the numbers that pass each leads all or none
pub leads_cases : (n : ℕ) (lead : ℕ → ℕ) (passes : ℕ → Bool) → AreLed n lead passes → (m : ℕ) → LeadsAll n lead passes m ⊎ ((value : ℕ → ℕ) → led_sum n lead (chosen passes value) m ≡ 0)
unfolding led_sum chosen
leads_cases n lead passes led m = elim (cases_eq (lead m) m) [
  | inr other ↦ inr (λ value. sum_below-none (λ k. cond (eqb (lead k) m) (cond (passes k) (value k) 0) 0) n (λ k l.
      cond-false (eqb (lead k) m) (cond (passes k) (value k) 0) 0 (ne_eqb (lead k) m (λ at. other (sym (ap lead at) ∙ led.twice k l ∙ at)))))
  | inl leads ↦ elim (cases_Bool (passes m)) [
    | inl it_passes ↦ inl (record {
      is_leader = leads;
      leader_passes = it_passes;
      same = λ value. sum_below-same (λ k. cond (eqb (lead k) m) (cond (passes k) (value k) 0) 0) (λ k. cond (eqb (lead k) m) (value k) 0) n (λ k l. elim (cases_eq (lead k) m) [
        | inl at ↦ ap (λ (v : ℕ). cond (eqb (lead k) m) v 0) (cond-true (passes k) (value k) 0 (sym (led.kept k l) ∙ ap passes at ∙ it_passes))
        | inr apart ↦ cond-false (eqb (lead k) m) (cond (passes k) (value k) 0) 0 (ne_eqb (lead k) m apart) ∙ sym (cond-false (eqb (lead k) m) (value k) 0 (ne_eqb (lead k) m apart))
      ]);
    })
    | inr it_fails ↦ inr (λ value. sum_below-none (λ k. cond (eqb (lead k) m) (cond (passes k) (value k) 0) 0) n (λ k l. elim (cases_eq (lead k) m) [
      | inl at ↦
          cond-true (eqb (lead k) m) (cond (passes k) (value k) 0) 0 (eq-eqb (lead k) m at) ∙ cond-false (passes k) (value k) 0 (sym (led.kept k l) ∙ ap passes at ∙ it_fails)
      | inr apart ↦ cond-false (eqb (lead k) m) (cond (passes k) (value k) 0) 0 (ne_eqb (lead k) m apart)
    ]))
  ]
]

-- Two values with equal sums over what each leader leads have equal sums over what passes.
pub sums_by_cycles : (n : ℕ) (lead : ℕ → ℕ) (passes : ℕ → Bool) (v w : ℕ → ℕ) → AreLed n lead passes
    → ((m : ℕ) → m < n → lead m ≡ m → passes m ≡ true → led_sum n lead v m ≡ led_sum n lead w m) → sum_below (chosen passes v) n ≡ sum_below (chosen passes w) n
sums_by_cycles n lead passes v w led alike =
    sum_below-led n lead (chosen passes v) led.inside
    ∙ sum_below-same (led_sum n lead (chosen passes v)) (led_sum n lead (chosen passes w)) n (λ m l. elim (leads_cases n lead passes led m) [
      | inl all ↦ all.same v ∙ alike m l all.is_leader all.leader_passes ∙ sym (all.same w)
      | inr none ↦ none v ∙ sym (none w)
    ])
    ∙ sym (sum_below-led n lead (chosen passes w) led.inside)
