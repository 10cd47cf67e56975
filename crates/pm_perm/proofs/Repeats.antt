-- What is met by repeating a permutation: each number is met again.
use Rattle.std.proofs.Common.{◌≡◌, ℕ, zero, suc, ◌+◌, ◌-◌, ◌*◌, ◌<◌, ◌≤◌, inl, inr, sym, ap, ◌∙◌, refl, min, arith}
use Rattle.std.proofs.lemmas.Bool.{cases_eq, cases_lt, cases_order}
use Rattle.pm_perm.specs.Permutation.{IsPermutationBelow}
use Rattle.pm_perm.specs.Cycles.{repeated, least_met}
use Rattle.pm_perm.proofs.Permutations.{reached_or_not, pigeonhole}

-- what is met stays below the size
pub repeated-inside : (f : ℕ → ℕ) (n : ℕ) → IsPermutationBelow n f → (k d : ℕ) → d < n → repeated f k d < n
repeated-inside f n p zero d h = h
repeated-inside f n p (suc k) d h = p.stays (repeated f k d) (repeated-inside f n p k d h)

-- the first step may be told apart in place of the last
pub repeated-first : (f : ℕ → ℕ) (k d : ℕ) → repeated f k (f d) ≡ repeated f (suc k) d
repeated-first f zero d = refl
repeated-first f (suc k) d = ap f (repeated-first f k d)

-- steps after steps
pub repeated-add : (f : ℕ → ℕ) (i k d : ℕ) → repeated f i (repeated f k d) ≡ repeated f (i + k) d
repeated-add f zero k d = let e : k ≡ 0 + k = omega arith in ap (λ m. repeated f m d) e
repeated-add f (suc i) k d =
    let e : suc (i + k) ≡ suc i + k = omega arith in
    ap f (repeated-add f i k d) ∙ ap (λ m. repeated f m d) e

-- different numbers lead to different numbers
pub repeated-injective : (f : ℕ → ℕ) (n : ℕ) → IsPermutationBelow n f → (k x y : ℕ) → x < n → y < n → repeated f k x ≡ repeated f k y → x ≡ y
repeated-injective f n p zero x y hx hy e = e
repeated-injective f n p (suc k) x y hx hy e =
    repeated-injective f n p k x y hx hy (p.injective (repeated f k x) (repeated f k y) (repeated-inside f n p k x hx) (repeated-inside f n p k y hy) e)

-- steps of one number and of another, in either order
pub repeated-swap : (f : ℕ → ℕ) (j k d : ℕ) → repeated f j (repeated f k d) ≡ repeated f k (repeated f j d)
repeated-swap f j k d = repeated-add f j k d ∙ ap (λ n. repeated f n d) (let e : j + k ≡ k + j = omega arith in e) ∙ sym (repeated-add f k j d)

-- where fewer and more steps lead to the same number, the difference leads back
pub repeated-back : (n : ℕ) (f : ℕ → ℕ) (i j d : ℕ) → IsPermutationBelow n f → d < n → i < j → repeated f i d ≡ repeated f j d → repeated f (j - i) d ≡ d
repeated-back n f i j d p h less e =
    let whole : i + (j - i) ≡ j = omega arith in
    let parts : repeated f j d ≡ repeated f i (repeated f (j - i) d) = ap (λ k. repeated f k d) (sym whole) ∙ sym (repeated-add f i (j - i) d) in
    repeated-injective f n p i (repeated f (j - i) d) d (repeated-inside f n p (j - i) d h) h (sym parts ∙ sym e)

-- some more times around a cycle lead to the same number
pub rounds : (f : ℕ → ℕ) (d size : ℕ) → repeated f size d ≡ d → (times steps : ℕ) → repeated f (steps + times * size) d ≡ repeated f steps d
rounds f d size back zero steps = ap (λ k. repeated f k d) (let e : steps + 0 * size ≡ steps = omega arith in e)
rounds f d size back (suc times) steps =
    let more : steps + suc times * size ≡ steps + times * size + size = omega arith in
    ap (λ k. repeated f k d) more ∙ sym (repeated-add f (steps + times * size) size d) ∙ ap (repeated f (steps + times * size)) back ∙ rounds f d size back times steps

-- a number is met again after one to `size` steps
pub record HasPeriod (f : ℕ → ℕ) (n d : ℕ) : Type 0 where
  pub fewer : ℕ
  pub within : fewer < n
  pub returns : repeated f (suc fewer) d ≡ d

pub period : (f : ℕ → ℕ) (n d : ℕ) → IsPermutationBelow n f → d < n → HasPeriod f n d
period f n d p h = elim (reached_or_not (λ k. repeated f (suc k) d) n d) [
  | inl r ↦ record { fewer = r.from; within = r.below; returns = r.value }
  | inr none ↦
      let fits : suc n ≤ n = pigeonhole (λ k. repeated f k d) (suc n) n (λ k _. repeated-inside f n p k d h) (λ j k hj hk e. elim (cases_order j k) [
        | inl same ↦ same
        | inr apart ↦ elim apart [
          | inl less ↦ absurd (no_return f n d p h none j k less hk e)
          | inr more ↦ absurd (no_return f n d p h none k j more hj (sym e))
        ]
      ]) in
      absurd (omega (arith, fits))
] where
  no_return : (f : ℕ → ℕ) (n d : ℕ) → IsPermutationBelow n f → d < n → ((k : ℕ) → k < n → repeated f (suc k) d ≡ d → ⊥)
      → (j k : ℕ) → j < k → k < suc n → repeated f j d ≡ repeated f k d → ⊥
  no_return f n d p h none j k less hk e =
      let m : ℕ = k - suc j in
      let sum : j + suc m ≡ k = omega arith in
      let back : repeated f j (repeated f (suc m) d) ≡ repeated f j d = repeated-add f j (suc m) d ∙ ap (λ i. repeated f i d) sum ∙ sym e in
      none m (omega arith) (repeated-injective f n p j (repeated f (suc m) d) d (repeated-inside f n p (suc m) d h) h back)

-- the least of what is met is at most each
pub least_met-le : (f : ℕ → ℕ) (k i d : ℕ) → i ≤ k → least_met f k d ≤ repeated f i d
least_met-le f zero i d h = let e : i ≡ 0 = omega arith in rw e (omega arith)
least_met-le f (suc k) i d h = elim (cases_eq i (suc k)) [
  | inl same ↦ rw same (omega arith)
  | inr less ↦ let rest : least_met f k d ≤ repeated f i d = least_met-le f k i d (omega (arith, less)) in omega (arith, rest)
]

-- the least of what is met is met
pub record IsMetWithin (f : ℕ → ℕ) (d steps e : ℕ) : Type 0 where
  pub after : ℕ
  pub within : after ≤ steps
  pub leads : repeated f after d ≡ e

pub least_met-met : (f : ℕ → ℕ) (k d : ℕ) → IsMetWithin f d k (least_met f k d)
least_met-met f zero d = record { after = 0; within = omega arith; leads = refl }
least_met-met f (suc k) d = elim (cases_lt (least_met f k d) (repeated f (suc k) d)) [
  | inl less ↦
      let rest : IsMetWithin f d k (least_met f k d) = least_met-met f k d in
      let e : min (least_met f k d) (repeated f (suc k) d) ≡ least_met f k d = omega arith in
      record { after = rest.after; within = omega (arith, rest.within); leads = rest.leads ∙ sym e }
  | inr last ↦
      let e : min (least_met f k d) (repeated f (suc k) d) ≡ repeated f (suc k) d = omega arith in
      record { after = suc k; within = omega arith; leads = sym e }
]
