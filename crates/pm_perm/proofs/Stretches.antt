-- Counts of the numbers of a stretch.
use Rattle.std.proofs.Common.{◌≡◌, ℕ, zero, suc, ◌+◌, ◌%◌, ◌<◌, ◌≤◌, ◌&&◌, ◌⊎◌, Bool, true, false, not, inl, inr, ltb, sym, ◌∙◌, ap, arith}
use Rattle.std.proofs.lemmas.Bool.{cases_eq, cases_lt, lt-ltb, le-ltb, ltb-true, ltb-false, and_parts, and_left, not-true}
use Rattle.pm_perm.specs.Count.{count_below}
use Rattle.pm_perm.specs.Pairs.{IsRingBelow, IsInvolutionBelow, IsNestedBelow}
use Rattle.pm_perm.proofs.Counts.{count_below-same, count_below-split}
use Rattle.pm_perm.proofs.Renumbered.{ring-mod}

-- the number is at least one bound and below another
pub is_between : ℕ → ℕ → ℕ → Bool
is_between low high k = not (ltb k low) && ltb k high

pub between-in : (low high k : ℕ) → low ≤ k → k < high → is_between low high k ≡ true
unfolding is_between
between-in low high k h h' = grind arith

pub between-below : (low high k : ℕ) → k < low → is_between low high k ≡ false
unfolding is_between
between-below low high k h = grind arith

pub between-above : (low high k : ℕ) → high ≤ k → is_between low high k ≡ false
unfolding is_between
between-above low high k h = grind arith

pub between-bounds : (low high k : ℕ) → is_between low high k ≡ true → (low ≤ k) × (k < high)
unfolding is_between
between-bounds low high k e =
    let parts = and_parts (not (ltb k low)) (ltb k high) e in
    (ltb-false k low (not-true (ltb k low) parts.0), ltb-true k high parts.1)

-- the numbers below a bound that pass, counted among more numbers
count_below-prefix : (passes : ℕ → Bool) (m n : ℕ) → m ≤ n → count_below passes m ≡ count_below (λ k. ltb k m && passes k) n
count_below-prefix passes m zero h = let e : m ≡ 0 = omega arith in ap (count_below passes) e
count_below-prefix passes m (suc n) h = elim (cases_eq m (suc n)) [
  | inl all ↦ ap (count_below passes) all ∙ count_below-same passes (λ k. ltb k m && passes k) (suc n) (λ k hk. ap (λ b. b && passes k) (sym (lt-ltb k m (omega (arith, all, hk)))))
  | inr fewer ↦ last passes m n (omega (arith, fewer)) (count_below-prefix passes m n (omega (arith, fewer)))
] where
  last : (passes : ℕ → Bool) (m n : ℕ) → m ≤ n → count_below passes m ≡ count_below (λ k. ltb k m && passes k) n
      → count_below passes m ≡ count_below (λ k. ltb k m && passes k) (suc n)
  last passes m n h e = let no : ltb n m ≡ false = le-ltb n m h in grind arith

-- the numbers of a stretch that pass, after those before it
pub count_below-between : (passes : ℕ → Bool) (low high n : ℕ) → low ≤ high → high ≤ n
    → count_below passes low + count_below (λ k. is_between low high k && passes k) n ≡ count_below passes high
count_below-between passes low high n h h' =
    ap (λ c. c + count_below (λ k. is_between low high k && passes k) n) (count_below-prefix passes low n (omega arith))
    ∙ count_below-split (λ k. ltb k low && passes k) (λ k. is_between low high k && passes k) (λ k. ltb k high && passes k) n (λ k hk. elim (cases_lt k low) [
      | inl before ↦ inl (
        ap (λ b. b && passes k) (lt-ltb k low before ∙ sym (lt-ltb k high (omega (arith, before)))),
        and_left (is_between low high k) (passes k) (between-below low high k before),
      )
      | inr after ↦ inr (
        and_left (ltb k low) (passes k) (le-ltb k low after),
        ap (λ b. b && passes k) (elim (cases_lt k high) [
          | inl inside ↦ between-in low high k after inside ∙ sym (lt-ltb k high inside)
          | inr beyond ↦ between-above low high k beyond ∙ sym (le-ltb k high beyond)
        ]),
      )
    ])
    ∙ sym (count_below-prefix passes high n h')

-- Where pairs are nested, the number after a number's partner lies behind the lesser end of a pair and no further than its
-- greater end exactly where the number itself does.
pub stretch-kept : (n : ℕ) (f t : ℕ → ℕ) (p q : ℕ) → IsInvolutionBelow n t → IsNestedBelow n t → t p ≡ q → p < q → q < n
    → ((d : ℕ) → d < n → f d ≡ suc (t d) % n) → (d : ℕ) → d < n → is_between (suc p) (suc q) (f d) ≡ is_between (suc p) (suc q) d
stretch-kept n f t p q paired nested end less inner next d h = elim (cases_lt p d) [
  | inr before ↦ outside d h (inl before) ∙ sym (between-below (suc p) (suc q) d (omega (arith, before)))
  | inl after ↦ elim (cases_lt q d) [
    | inl beyond ↦ outside d h (inr beyond) ∙ sym (between-above (suc p) (suc q) d (omega (arith, beyond)))
    | inr within ↦ inside d h after within ∙ sym (between-in (suc p) (suc q) d (omega (arith, after)) (omega (arith, within)))
  ]
] where
  ring : IsRingBelow n (λ k. suc k % n)
  ring = ring-mod n

  back : t q ≡ p
  back = ap t (sym end) ∙ paired.twice p (omega arith)

  below : t p < n
  below = omega (arith, end, inner)

  inside : (d : ℕ) → d < n → p < d → d ≤ q → is_between (suc p) (suc q) (f d) ≡ true
  inside d h after within = elim (cases_eq d q) [
    | inl at_end ↦
        let e : f d ≡ suc p = next d h ∙ ap (λ k. suc (t k) % n) at_end ∙ ap (λ k. suc k % n) back ∙ ring.next p (omega arith) in
        ap (is_between (suc p) (suc q)) e ∙ between-in (suc p) (suc q) (suc p) (omega arith) (omega arith)
    | inr before_end ↦
        let above : p < t d = nested.above p d below after (omega (arith, end, within, before_end)) in
        let under : t d < t p = nested.below p d below after (omega (arith, end, within, before_end)) in
        let e : f d ≡ suc (t d) = next d h ∙ ring.next (t d) (omega (arith, under, end)) in
        ap (is_between (suc p) (suc q)) e ∙ between-in (suc p) (suc q) (suc (t d)) (omega (arith, above)) (omega (arith, under, end))
  ]

  far : (d : ℕ) → d < n → (t d < p) ⊎ (q ≤ t d) → is_between (suc p) (suc q) (f d) ≡ false
  far d h (inl low) =
      let e : f d ≡ suc (t d) = next d h ∙ ring.next (t d) (omega (arith, low)) in
      ap (is_between (suc p) (suc q)) e ∙ between-below (suc p) (suc q) (suc (t d)) (omega (arith, low))
  far d h (inr high) = elim (cases_eq (suc (t d)) n) [
    | inl last ↦
        let e : f d ≡ 0 = next d h ∙ ring.last (t d) last in
        ap (is_between (suc p) (suc q)) e ∙ between-below (suc p) (suc q) 0 (omega arith)
    | inr more ↦
        let e : f d ≡ suc (t d) = next d h ∙ ring.next (t d) (omega (arith, more, paired.stays d h)) in
        ap (is_between (suc p) (suc q)) e ∙ between-above (suc p) (suc q) (suc (t d)) (omega (arith, high))
  ]

  outside : (d : ℕ) → d < n → (d ≤ p) ⊎ (q < d) → is_between (suc p) (suc q) (f d) ≡ false
  outside d h out = far d h (elim (cases_lt (t d) p) [
    | inl low ↦ inl low
    | inr high ↦ elim (cases_lt (t d) q) [
      | inr beyond ↦ inr beyond
      | inl under ↦ elim (cases_eq (t d) p) [
        | inl at_start ↦ absurd (at_end d out (sym (paired.twice d h) ∙ ap t at_start ∙ end))
        | inr past ↦
            let above : p < t (t d) = nested.above p (t d) below (omega (arith, high, past)) (omega (arith, end, under)) in
            let beneath : t (t d) < t p = nested.below p (t d) below (omega (arith, high, past)) (omega (arith, end, under)) in
            absurd (in_stretch d out (omega (arith, above, paired.twice d h)) (omega (arith, beneath, end, paired.twice d h)))
      ]
    ]
  ]) where
    at_end : (d : ℕ) → (d ≤ p) ⊎ (q < d) → d ≡ q → ⊥
    at_end d (inl low) e = omega arith
    at_end d (inr high) e = omega arith

    in_stretch : (d : ℕ) → (d ≤ p) ⊎ (q < d) → p < d → d < q → ⊥
    in_stretch d (inl low) e e' = omega arith
    in_stretch d (inr high) e e' = omega arith
