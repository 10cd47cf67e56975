-- Permutations of the numbers below a bound: each is a value of theirs, and numbers that go to different places are no more
-- than the places.
use Rattle.std.proofs.Common.{◌≡◌, ◌≢◌, ℕ, zero, suc, ◌<◌, ◌≤◌, ◌⊎◌, inl, inr, true, not, eqb, refl, arith}
use Rattle.std.proofs.lemmas.Bool.{cases_eq}
use Rattle.pm_perm.specs.Permutation.{IsPermutationBelow}
use Rattle.pm_perm.proofs.Counts.{count_below-image, count_below-all, count_below-without}

-- a number below n with this value
pub record IsReached (f : ℕ → ℕ) (n y : ℕ) : Type 0 where
  pub from : ℕ
  pub below : from < n
  pub value : f from ≡ y

-- a value is reached from below n, or it isn't
pub reached_or_not : (f : ℕ → ℕ) (n y : ℕ) → IsReached f n y ⊎ ((k : ℕ) → k < n → f k ≢ y)
reached_or_not f zero y = inr (λ k lt e. none_below k lt) where
  none_below : (k : ℕ) → k < 0 → ⊥
  none_below k lt = omega arith
reached_or_not f (suc n) y = elim (reached_or_not f n y) [
  | inl r ↦ inl (record { from = r.from; below = later r.from n r.below; value = r.value })
  | inr none ↦ elim (cases_eq (f n) y) [
    | inl here ↦ inl (record { from = n; below = last n; value = here })
    | inr other ↦ inr (λ k lt e. not_below f n y none other k lt e)
  ]
] where
  later : (k n : ℕ) → k < n → k < suc n
  later k n h = omega arith

  last : (n : ℕ) → n < suc n
  last n = omega arith

  not_below : (f : ℕ → ℕ) (n y : ℕ) → ((k : ℕ) → k < n → f k ≢ y) → (f n ≡ y → ⊥) → (k : ℕ) → k < suc n → f k ≡ y → ⊥
  not_below f n y none other k lt e = elim (cases_eq k n) [ inl same ↦ grind arith | inr less ↦ none k (omega arith) e ]

-- numbers below n that go to different numbers below m are at most m
pub pigeonhole : (f : ℕ → ℕ) (n m : ℕ) → ((k : ℕ) → k < n → f k < m) → ((j k : ℕ) → j < n → k < n → f j ≡ f k → j ≡ k) → n ≤ m
pigeonhole f n m stays injective =
    let image = count_below-image (λ _. true) f n m stays injective in
    omega (arith, image, count_below-all (λ _. true) n (λ _ _. refl), count_below-all (λ _. true) m (λ _ _. refl))

-- each number below n is a value of a permutation
pub reached : (f : ℕ → ℕ) (n y : ℕ) → IsPermutationBelow n f → y < n → IsReached f n y
reached f n y p lt = elim (reached_or_not f n y) [ inl r ↦ r | inr none ↦ absurd (missed f n y p lt none) ] where
  apart : (k y : ℕ) → k ≢ y → not (eqb k y) ≡ true
  apart k y h = grind arith

  missed : (f : ℕ → ℕ) (n y : ℕ) → IsPermutationBelow n f → y < n → ((k : ℕ) → k < n → f k ≢ y) → ⊥
  missed f n y p lt none =
      let image = count_below-image (λ k. not (eqb k y)) f n n p.stays p.injective in
      let all = count_below-all (λ k. not (eqb (f k) y)) n (λ k h. apart (f k) y (none k h)) in
      let whole = count_below-without (λ _. true) y n lt in
      omega (arith, image, all, whole, count_below-all (λ _. true) n (λ _ _. refl))
