-- Counts of the numbers below a bound.
use Rattle.std.proofs.Common.{◌≡◌, ◌≢◌, ℕ, zero, suc, ◌+◌, ◌<◌, ◌≤◌, Bool, true, false, ◌⊎◌, not, ◌&&◌, cond, eqb, if◌then◌else◌, refl, ap, ◌∙◌, inl, inr, arith}
use Rattle.std.proofs.lemmas.Bool.{cases_eq, cases_Bool}
use Rattle.pm_perm.specs.Count.{count_below}

-- tests that agree below the bound count alike
pub count_below-same : (P Q : ℕ → Bool) (n : ℕ) → ((k : ℕ) → k < n → P k ≡ Q k) → count_below P n ≡ count_below Q n
count_below-same P Q zero h = refl
count_below-same P Q (suc n) h = let rest = count_below-same P Q n (λ k lt. h k (omega arith)) in let here = h n (omega arith) in rw (here, rest)

-- a test that passes less often counts less
pub count_below-le : (P Q : ℕ → Bool) (n : ℕ) → ((k : ℕ) → k < n → P k ≡ true → Q k ≡ true) → count_below P n ≤ count_below Q n
count_below-le P Q zero h = omega arith
count_below-le P Q (suc n) h = let rest = count_below-le P Q n (λ k lt. h k (omega arith)) in count_step P Q n (h n (omega arith)) rest where
  count_step : (P Q : ℕ → Bool) (n : ℕ) → (P n ≡ true → Q n ≡ true) → count_below P n ≤ count_below Q n → count_below P (suc n) ≤ count_below Q (suc n)
  count_step P Q n h rest = grind arith

-- at most all pass
pub count_below-bound : (P : ℕ → Bool) (n : ℕ) → count_below P n ≤ n
count_below-bound P zero = omega arith
count_below-bound P (suc n) = let rest = count_below-bound P n in grind arith

-- one number that passes, left out, counts one less
pub count_below-without : (P : ℕ → Bool) (a n : ℕ) → a < n → count_below P n ≡ count_below (λ k. P k && not (eqb k a)) n + cond (P a) 1 0
count_below-without P a zero h = absurd (omega arith)
count_below-without P a (suc n) h = elim (cases_eq a n) [
  | inl same ↦ without_last P a n same (count_below-same P (λ k. P k && not (eqb k a)) n (λ k lt. without_other P a k (omega arith)))
  | inr other ↦ without_more P a n other (count_below-without P a n (omega arith))
] where
  without_other : (P : ℕ → Bool) (a k : ℕ) → k ≢ a → P k ≡ (P k && not (eqb k a))
  without_other P a k h = grind arith

  without_last : (P : ℕ → Bool) (a n : ℕ) → a ≡ n → count_below P n ≡ count_below (λ k. P k && not (eqb k a)) n → count_below P (suc n) ≡ count_below (λ k. P k && not (eqb k a)) (suc n) + cond (P a) 1 0
  without_last P a n e h = grind arith

  without_more : (P : ℕ → Bool) (a n : ℕ) → (a ≡ n → ⊥) → count_below P n ≡ count_below (λ k. P k && not (eqb k a)) n + cond (P a) 1 0 → count_below P (suc n) ≡ count_below (λ k. P k && not (eqb k a)) (suc n) + cond (P a) 1 0
  without_more P a n ne h = grind arith

-- under a map that takes different numbers to different numbers, no more pass than there are
pub count_below-image : (P : ℕ → Bool) (f : ℕ → ℕ) (n m : ℕ) → ((k : ℕ) → k < n → f k < m) → ((j k : ℕ) → j < n → k < n → f j ≡ f k → j ≡ k) → count_below (λ k. P (f k)) n ≤ count_below P m
count_below-image P f zero m stays injective = omega arith
count_below-image P f (suc n) m stays injective =
    let Q : ℕ → Bool = λ k. P k && not (eqb k (f n)) in
    let fewer = count_below-image Q f n m (λ k lt. stays k (omega arith)) (λ j k lt lt' e. injective j k (omega arith) (omega arith) e) in
    let same = count_below-same (λ k. P (f k)) (λ k. Q (f k)) n (λ k lt. apart P (f k) (f n) (λ e. below_not k n lt (injective k n (omega arith) (omega arith) e))) in
    let whole = count_below-without P (f n) m (stays n (omega arith)) in
    omega (arith, fewer, same, whole) where
      below_not : (k n : ℕ) → k < n → k ≡ n → ⊥
      below_not k n lt e = omega arith

      apart : (P : ℕ → Bool) (k a : ℕ) → (k ≡ a → ⊥) → P k ≡ (P k && not (eqb k a))
      apart P k a h = grind arith

-- all numbers below a bound pass the test that always passes
pub count_below-all : (P : ℕ → Bool) (n : ℕ) → ((k : ℕ) → k < n → P k ≡ true) → count_below P n ≡ n
count_below-all P zero h = refl
count_below-all P (suc n) h = all_step P n (h n (omega arith)) (count_below-all P n (λ k lt. h k (omega arith))) where
  all_step : (P : ℕ → Bool) (n : ℕ) → P n ≡ true → count_below P n ≡ n → count_below P (suc n) ≡ suc n
  all_step P n h rest = grind arith

-- where none passes, none is counted
pub count_below-none : (P : ℕ → Bool) (n : ℕ) → ((k : ℕ) → k < n → P k ≡ false) → count_below P n ≡ 0
count_below-none P zero h = refl
count_below-none P (suc n) h = let last = h n (omega arith) in let before = count_below-none P n (λ k less. h k (omega arith)) in rw (last, before) refl

-- below a sum are those below the first number, and those from it on
pub count_below-add : (P : ℕ → Bool) (a b : ℕ) → count_below P (a + b) ≡ count_below P a + count_below (λ k. P (a + k)) b
count_below-add P a zero = let e : a + 0 ≡ a = omega arith in ap (count_below P) e ∙ plain (count_below P a) where
  plain : (x : ℕ) → x ≡ x + 0
  plain x = omega arith
count_below-add P a (suc b) = let e : a + suc b ≡ suc (a + b) = omega arith in ap (count_below P) e ∙ step (count_below-add P a b) where
  step : count_below P (a + b) ≡ count_below P a + count_below (λ k. P (a + k)) b → count_below P (suc (a + b)) ≡ count_below P a + count_below (λ k. P (a + k)) (suc b)
  step h = omega (arith, h)

-- one number is 0
pub count_below-zero : (n : ℕ) → 0 < n → count_below (λ d. eqb 0 d) n ≡ 1
count_below-zero zero h = absurd (omega arith)
count_below-zero (suc zero) h = refl
count_below-zero (suc (suc n)) h = more n (count_below-zero (suc n) (omega arith)) where
  more : (n : ℕ) → count_below (λ d. eqb 0 d) (suc n) ≡ 1 → count_below (λ d. eqb 0 d) (suc (suc n)) ≡ 1
  more n e = grind arith

-- more numbers, more that pass
pub count_below-grows : (P : ℕ → Bool) (m n : ℕ) → m ≤ n → count_below P m ≤ count_below P n
count_below-grows P m zero h = let e : m ≡ 0 = omega arith in rw e (omega arith)
count_below-grows P m (suc n) h = elim (cases_eq m (suc n)) [
  | inl same ↦ rw same (omega arith)
  | inr less ↦ grows_step P m n (count_below-grows P m n (omega arith))
] where
  grows_step : (P : ℕ → Bool) (m n : ℕ) → count_below P m ≤ count_below P n → count_below P m ≤ count_below P (suc n)
  grows_step P m n h = grind arith

-- one passes, where some do
pub one_passes : (P : ℕ → Bool) (n : ℕ) → 0 < count_below P n → (k : ℕ) × (k < n) × (P k ≡ true)
one_passes P zero some = absurd (omega arith)
one_passes P (suc n) some = elim (cases_Bool (P n)) [
  | inl passes ↦ (n, omega arith, passes)
  | inr fails ↦ (let rest = one_passes P n (earlier (count_below P n) (P n) fails some) in (rest.0, (let l = rest.1 in omega (arith, l)), rest.2))
] where
  earlier : (count : ℕ) (b : Bool) → b ≡ false → 0 < count + (if b then 1 else 0) → 0 < count
  earlier count b fails some = let e : count + (if b then 1 else 0) ≡ count + 0 = ap (λ (c : Bool). count + (if c then 1 else 0)) fails in omega (arith, some, e)

-- some pass, where one does
pub some_pass : (P : ℕ → Bool) (k n : ℕ) → k < n → P k ≡ true → 0 < count_below P n
some_pass P k n less passes =
    let grows = count_below-grows P (suc k) n (omega arith) in
    let here : count_below P (suc k) ≡ count_below P k + 1 = rw passes refl in
    omega (arith, grows, here)

-- of two tests of which each number passes exactly one, all numbers pass one
pub count_below-parts : (P Q : ℕ → Bool) (n : ℕ) → ((k : ℕ) → k < n → P k ≡ not (Q k)) → count_below P n + count_below Q n ≡ n
count_below-parts P Q zero h = omega arith
count_below-parts P Q (suc n) h = parts_step P Q n (h n (omega arith)) (count_below-parts P Q n (λ k lt. h k (omega arith))) where
  parts_step : (P Q : ℕ → Bool) (n : ℕ) → P n ≡ not (Q n) → count_below P n + count_below Q n ≡ n → count_below P (suc n) + count_below Q (suc n) ≡ suc n
  parts_step P Q n h rest = grind arith

-- what passes one test and is sent to different numbers that pass another is no more than those
pub count_below-into : (P Q : ℕ → Bool) (h : ℕ → ℕ) (n m : ℕ) → ((k : ℕ) → k < n → P k ≡ true → h k < m)
    → ((k : ℕ) → k < n → P k ≡ true → Q (h k) ≡ true)
    → ((j k : ℕ) → j < n → k < n → P j ≡ true → P k ≡ true → h j ≡ h k → j ≡ k) → count_below P n ≤ count_below Q m
count_below-into P Q h zero m stays passes injective = omega arith
count_below-into P Q h (suc n) m stays passes injective = elim (cases_true (P n)) [
  | inl this ↦
      let Q' : ℕ → Bool = λ k. Q k && not (eqb k (h n)) in
      let fewer : count_below P n ≤ count_below Q' m = count_below-into P Q' h n m (λ k lt. stays k (omega arith))
      (λ k lt e. both (Q (h k)) (h k) (h n) (passes k (omega arith) e) (λ same. not_last k n lt (injective k n (omega arith) (omega arith) e this same)))
      (λ j k lt lt' e e'. injective j k (omega arith) (omega arith) e e') in
      let whole : count_below Q m ≡ count_below Q' m + cond (Q (h n)) 1 0 = count_below-without Q (h n) m (stays n (omega arith) this) in
      into_step P Q Q' n m (h n) this (passes n (omega arith) this) fewer whole
  | inr other ↦
      into_skip P Q n m other (count_below-into P Q h n m (λ k lt. stays k (omega arith)) (λ k lt. passes k (omega arith)) (λ j k lt lt'. injective j k (omega arith) (omega arith)))
] where
  cases_true : (b : Bool) → (b ≡ true) ⊎ (b ≡ false)
  cases_true b = elim b as (λ v. (v ≡ true) ⊎ (v ≡ false)) [ true ↦ inl refl | false ↦ inr refl ]

  not_last : (k n : ℕ) → k < n → k ≡ n → ⊥
  not_last k n lt e = omega arith

  both : (b : Bool) (x y : ℕ) → b ≡ true → (x ≡ y → ⊥) → (b && not (eqb x y)) ≡ true
  both b x y e ne = grind arith

  into_step : (P Q Q' : ℕ → Bool) (n m a : ℕ) → P n ≡ true → Q a ≡ true → count_below P n ≤ count_below Q' m
      → count_below Q m ≡ count_below Q' m + cond (Q a) 1 0 → count_below P (suc n) ≤ count_below Q m
  into_step P Q Q' n m a e e' fewer whole = grind arith

  into_skip : (P Q : ℕ → Bool) (n m : ℕ) → P n ≡ false → count_below P n ≤ count_below Q m → count_below P (suc n) ≤ count_below Q m
  into_skip P Q n m e h = grind arith

-- a test that splits into two: each number goes with one of them, or with neither
pub count_below-split : (P Q R : ℕ → Bool) (n : ℕ) → ((k : ℕ) → k < n → ((P k ≡ R k) × (Q k ≡ false)) ⊎ ((P k ≡ false) × (Q k ≡ R k))) → count_below P n + count_below Q n ≡ count_below R n
count_below-split P Q R zero h = omega arith
count_below-split P Q R (suc n) h = split_step P Q R n (h n (omega arith)) (count_below-split P Q R n (λ k lt. h k (omega arith))) where
  split_step : (P Q R : ℕ → Bool) (n : ℕ) → ((P n ≡ R n) × (Q n ≡ false)) ⊎ ((P n ≡ false) × (Q n ≡ R n)) → count_below P n + count_below Q n ≡ count_below R n
      → count_below P (suc n) + count_below Q (suc n) ≡ count_below R (suc n)
  split_step P Q R n (inl e) rest = let a = e.0 in let b = e.1 in grind arith
  split_step P Q R n (inr e) rest = let a = e.0 in let b = e.1 in grind arith
