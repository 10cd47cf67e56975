-- The size of a cycle is how many numbers it has.
use Rattle.std.proofs.Common.{◌≡◌, ◌≢◌, ℕ, zero, suc, ◌+◌, ◌-◌, ◌*◌, ◌/◌, ◌%◌, ◌<◌, ◌≤◌, ◌⊎◌, inl, inr, true, nat_eq, refl, sym, ◌∙◌, ap, subst, arith}
use Rattle.std.proofs.lemmas.Bool.{cases_eq, cases_order, eqb-true, eq-eqb}
use Rattle.pm_perm.specs.Count.{count_below}
use Rattle.pm_perm.specs.Permutation.{IsPermutationBelow}
use Rattle.pm_perm.specs.Cycles.{repeated, leader, IsInCycle}
use Rattle.pm_perm.proofs.Counts.{count_below-into, count_below-all}
use Rattle.pm_perm.proofs.InverseLemmas.{place_of, place_of-value}
use Rattle.pm_perm.proofs.Permutations.{IsReached}
use Rattle.pm_perm.proofs.Repeats.{repeated-inside, repeated-back, rounds, HasPeriod, period}
use Rattle.pm_perm.proofs.SameCycle.{in_cycle-leader, leader-in_cycle}
use Rattle.pm_map.specs.CycleSize.{IsCycleSize}
use Rattle.pm_map.specs.ClassLaws.{DegreeCountsDarts}

-- what is met is met in fewer steps than the size
met_within : (f : ℕ → ℕ) (d size e : ℕ) → IsCycleSize f d size → IsInCycle f d e → IsReached (λ k. repeated f k d) size e
met_within f d size e is met =
    let some : 0 < size = is.some in
    let whole : met.steps ≡ met.steps % size + met.steps / size * size = omega arith in
    record {
      from = met.steps % size;
      below = omega arith;
      value = sym (rounds f d size is.back (met.steps / size) (met.steps % size)) ∙ ap (λ k. repeated f k d) (sym whole) ∙ met.leads;
    }

-- fewer steps than the size lead to different numbers
steps_apart : (n : ℕ) (f : ℕ → ℕ) (d size : ℕ) → IsPermutationBelow n f → d < n → IsCycleSize f d size → (j k : ℕ) → j < size → k < size → repeated f j d ≡ repeated f k d → j ≡ k
steps_apart n f d size p h is j k hj hk same = elim (cases_order j k) [
  | inl equal ↦ equal
  | inr apart ↦ elim apart [
    | inl less ↦ absurd (is.least (k - j) (omega arith) (omega arith) (repeated-back n f j k d p h less same))
    | inr more ↦ absurd (is.least (j - k) (omega arith) (omega arith) (repeated-back n f k j d p h more (sym same)))
  ]
]

size_counts : (n : ℕ) (f : ℕ → ℕ) (d size : ℕ) → IsPermutationBelow n f → d < n → IsCycleSize f d size → count_below (λ e. nat_eq (leader n f e) (leader n f d)) n ≡ size
size_counts n f d size p h is =
    let all : count_below (λ _. true) size ≡ size = count_below-all (λ _. true) size (λ _ _. refl) in
    let at_least : count_below (λ _. true) size ≤ count_below (λ e. nat_eq (leader n f e) (leader n f d)) n =
    count_below-into (λ _. true) (λ e. nat_eq (leader n f e) (leader n f d)) (λ k. repeated f k d) size n
    (λ k _ _. repeated-inside f n p k d h)
    (λ k _ _. eq-eqb (leader n f (repeated f k d)) (leader n f d) (sym (in_cycle-leader n f p d (repeated f k d) h (record { steps = k; leads = refl }))))
    (λ j k hj hk _ _ same. steps_apart n f d size p h is j k hj hk same) in
    let met : (e : ℕ) → e < n → nat_eq (leader n f e) (leader n f d) ≡ true → IsReached (λ k. repeated f k d) size e =
    λ e he test. met_within f d size e is (leader-in_cycle n f p d e h he (sym (eqb-true (leader n f e) (leader n f d) test))) in
    let at_most : count_below (λ e. nat_eq (leader n f e) (leader n f d)) n ≤ count_below (λ _. true) size =
    count_below-into (λ e. nat_eq (leader n f e) (leader n f d)) (λ _. true) (place_of (λ k. repeated f k d) size) n size
    (λ e he test. (place_of-value (λ k. repeated f k d) size e (met e he test)).0) (λ e _ _. refl)
    (λ a b ha hb test_a test_b same.
    sym ((place_of-value (λ k. repeated f k d) size a (met a ha test_a)).1) ∙ ap (λ k. repeated f k d) same ∙ (place_of-value (λ k. repeated f k d) size b (met b hb test_b)).1) in
    omega arith

-- there is a size up to a bound, or no number of steps up to the bound leads back
pub record HasSize (f : ℕ → ℕ) (d : ℕ) : Type 0 where
  pub size : ℕ
  pub is : IsCycleSize f d size

size_or_none : (f : ℕ → ℕ) (d most : ℕ) → HasSize f d ⊎ ((k : ℕ) → 0 < k → k ≤ most → repeated f k d ≢ d)
size_or_none f d zero = inr (λ k some few. absurd (omega (arith, some, few)))
size_or_none f d (suc most) = elim (size_or_none f d most) [
  | inl found ↦ inl found
  | inr none ↦ elim (cases_eq (repeated f (suc most) d) d) [
    | inl back ↦ inl (record { size = suc most; is = record { some = omega arith; back = back; least = λ k some less. none k some (omega (arith, less)) } })
    | inr away ↦ inr (λ k some few. elim (cases_eq k (suc most)) [
      | inl last ↦ subst (λ i. repeated f i d ≢ d) (sym last) away
      | inr before ↦ none k some (omega (arith, few, before))
    ])
  ]
]

pub has_size : (n : ℕ) (f : ℕ → ℕ) (d : ℕ) → IsPermutationBelow n f → d < n → HasSize f d
has_size n f d p h = elim (size_or_none f d n) [
  | inl found ↦ found
  | inr none ↦ (let round : HasPeriod f n d = period f n d p h in absurd (none (suc round.fewer) (omega arith) (omega (arith, round.within)) round.returns))
]

pub degree_counts_darts : DegreeCountsDarts
degree_counts_darts s d degree is h =
    let f : ℕ → ℕ = s.next in
    let found : HasSize f d = has_size s.darts f d is.rotation h in (
      λ sized. size_counts s.darts f d degree is.rotation h sized,
      λ counted. subst (IsCycleSize f d) (sym (size_counts s.darts f d found.size is.rotation h found.is) ∙ counted) found.is,
    )
