-- Counts that are even.
use Rattle.std.proofs.Common.{◌≡◌, ℕ, ◌+◌, ◌%◌, ◌<◌, ◌≤◌, ◌&&◌, Bool, true, inl, inr, ltb, eqb, sym, ◌∙◌, ap, arith}
use Rattle.std.proofs.lemmas.Bool.{cases_order, cases_Bool, lt-ltb, le-ltb, ltb-true, and_parts, and_from, and_left, and_right}
use Rattle.pm_perm.specs.Count.{count_below}
use Rattle.pm_perm.proofs.Sums.{sum_below, count_below-sum, sum_below-led, sum_below-even, led_sum, chosen, leads_cases}
use Rattle.pm_perm.proofs.Counts.{count_below-split, count_below-into}

-- the numbers that pass make pairs
pub record ArePaired (n : ℕ) (t : ℕ → ℕ) (passes : ℕ → Bool) : Type 0 where
  pub stays : (k : ℕ) → k < n → passes k ≡ true → t k < n
  pub kept : (k : ℕ) → k < n → passes k ≡ true → passes (t k) ≡ true
  pub twice : (k : ℕ) → k < n → passes k ≡ true → t (t k) ≡ k
  pub other : (k : ℕ) → k < n → passes k ≡ true → t k ≡ k → ⊥

-- numbers that make pairs are even in number
pub even_in_pairs : (n : ℕ) (t : ℕ → ℕ) (passes : ℕ → Bool) → ArePaired n t passes → count_below passes n % 2 ≡ 0
even_in_pairs n t passes paired = even (count_below lesser n) (count_below greater n) (count_below passes n) parts down up where
  lesser : ℕ → Bool
  lesser k = passes k && ltb (t k) k

  greater : ℕ → Bool
  greater k = passes k && ltb k (t k)

  even : (a b c : ℕ) → a + b ≡ c → a ≤ b → b ≤ a → c % 2 ≡ 0
  even a b c whole h h' = omega arith

  parts : count_below lesser n + count_below greater n ≡ count_below passes n
  parts = count_below-split lesser greater passes n (λ k h. elim (cases_Bool (passes k)) [
    | inr it_fails ↦ inl (and_left (passes k) (ltb (t k) k) it_fails ∙ sym it_fails, and_left (passes k) (ltb k (t k)) it_fails)
    | inl it_passes ↦ elim (cases_order (t k) k) [
      | inl same ↦ absurd (paired.other k h it_passes same)
      | inr apart ↦ elim apart [
        | inl less ↦ inl (and_from (passes k) (ltb (t k) k) it_passes (lt-ltb (t k) k less) ∙ sym it_passes, and_right (passes k) (ltb k (t k)) (le-ltb k (t k) (omega (arith, less))))
        | inr more ↦ inr (and_right (passes k) (ltb (t k) k) (le-ltb (t k) k (omega (arith, more))), and_from (passes k) (ltb k (t k)) it_passes (lt-ltb k (t k) more) ∙ sym it_passes)
      ]
    ]
  ])

  down : count_below lesser n ≤ count_below greater n
  down = count_below-into lesser greater t n n
      (λ k h e. paired.stays k h (and_parts (passes k) (ltb (t k) k) e).0)
      (λ k h e. and_from (passes (t k)) (ltb (t k) (t (t k))) (paired.kept k h (and_parts (passes k) (ltb (t k) k) e).0)
      (lt-ltb (t k) (t (t k)) (omega (arith, ltb-true (t k) k (and_parts (passes k) (ltb (t k) k) e).1, paired.twice k h (and_parts (passes k) (ltb (t k) k) e).0))))
      (λ j k hj hk ej ek same. sym (paired.twice j hj (and_parts (passes j) (ltb (t j) j) ej).0) ∙ ap t same ∙ paired.twice k hk (and_parts (passes k) (ltb (t k) k) ek).0)

  up : count_below greater n ≤ count_below lesser n
  up = count_below-into greater lesser t n n
      (λ k h e. paired.stays k h (and_parts (passes k) (ltb k (t k)) e).0)
      (λ k h e. and_from (passes (t k)) (ltb (t (t k)) (t k)) (paired.kept k h (and_parts (passes k) (ltb k (t k)) e).0)
      (lt-ltb (t (t k)) (t k) (omega (arith, ltb-true k (t k) (and_parts (passes k) (ltb k (t k)) e).1, paired.twice k h (and_parts (passes k) (ltb k (t k)) e).0))))
      (λ j k hj hk ej ek same. sym (paired.twice j hj (and_parts (passes j) (ltb j (t j)) ej).0) ∙ ap t same ∙ paired.twice k hk (and_parts (passes k) (ltb k (t k)) ek).0)

-- each leader leads an even count of numbers, and all of them pass or none
pub record AreLedEvenly (n : ℕ) (lead : ℕ → ℕ) (passes : ℕ → Bool) : Type 0 where
  pub inside : (k : ℕ) → k < n → lead k < n
  pub twice : (k : ℕ) → k < n → lead (lead k) ≡ lead k
  pub kept : (k : ℕ) → k < n → passes (lead k) ≡ passes k
  pub even : (m : ℕ) → m < n → lead m ≡ m → count_below (λ e. eqb (lead e) m) n % 2 ≡ 0

-- so the numbers that pass are even in number
pub even_in_cycles : (n : ℕ) (lead : ℕ → ℕ) (passes : ℕ → Bool) → AreLedEvenly n lead passes → count_below passes n % 2 ≡ 0
unfolding chosen led_sum
even_in_cycles n lead passes led =
    let ones : ℕ → ℕ = λ k. 1 in
    let by_leaders : count_below passes n ≡ sum_below (led_sum n lead (chosen passes ones)) n = count_below-sum passes n ∙ sum_below-led n lead (chosen passes ones) led.inside in
    ap (λ (c : ℕ). c % 2) by_leaders ∙ sum_below-even (led_sum n lead (chosen passes ones)) n (λ m l.
    elim (leads_cases n lead passes (record { inside = led.inside; twice = led.twice; kept = led.kept }) m) [
      | inl all ↦ ap (λ (c : ℕ). c % 2) (all.same ones ∙ sym (count_below-sum (λ e. eqb (lead e) m) n)) ∙ led.even m l all.is_leader
      | inr none ↦ ap (λ (c : ℕ). c % 2) (none ones)
    ])
