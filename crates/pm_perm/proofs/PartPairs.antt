-- Pairs one after another: the pairs whose two ends are below a bound, as the bound rises.
use Rattle.std.proofs.Common.{◌≡◌, ℕ, zero, suc, ◌+◌, ◌<◌, ◌≤◌, inl, inr, cond, ltb, sym, ap, ◌∙◌, refl, arith}
use Rattle.std.proofs.lemmas.Bool.{cases_eq, cases_lt, cond-true, cond-false, lt-ltb, le-ltb}
use Rattle.pm_perm.specs.Permutation.{IsPermutationBelow}
use Rattle.pm_perm.specs.Cycles.{cycles}
use Rattle.pm_perm.specs.Exchange.{IsExchangeBelow, IsProductBelow}
use Rattle.pm_perm.specs.Pairs.{IsInvolutionBelow, pairs}
use Rattle.pm_perm.proofs.SameCycle.{cycles-same}
use Rattle.pm_perm.proofs.Parted.{cycles-at_most}
use Rattle.pm_perm.proofs.Renumbered.{product-permutes}

-- an involution is a permutation
pub involution-permutes : (n : ℕ) (t : ℕ → ℕ) → IsInvolutionBelow n t → IsPermutationBelow n t
involution-permutes n t i = record {
  stays = i.stays;
  injective = λ j k hj hk e. sym (i.twice j hj) ∙ ap t e ∙ i.twice k hk;
}

-- t at the pairs whose two ends are below the bound, and nothing moved elsewhere
pub part : (ℕ → ℕ) → ℕ → ℕ → ℕ
part t m d = cond (ltb d m) (cond (ltb (t d) m) (t d) d) d

pub part-in : (t : ℕ → ℕ) (m d : ℕ) → d < m → t d < m → part t m d ≡ t d
unfolding part
part-in t m d h h' =
    cond-true (ltb d m) (cond (ltb (t d) m) (t d) d) d (lt-ltb d m h) ∙ cond-true (ltb (t d) m) (t d) d (lt-ltb (t d) m h')

pub part-beyond : (t : ℕ → ℕ) (m d : ℕ) → m ≤ d → part t m d ≡ d
unfolding part
part-beyond t m d h = cond-false (ltb d m) (cond (ltb (t d) m) (t d) d) d (le-ltb d m h)

part_outside : (t : ℕ → ℕ) (m d : ℕ) → d < m → m ≤ t d → part t m d ≡ d
unfolding part
part_outside t m d low h =
    cond-true (ltb d m) (cond (ltb (t d) m) (t d) d) d (lt-ltb d m low) ∙ cond-false (ltb (t d) m) (t d) d (le-ltb (t d) m h)

pub part-open : (t : ℕ → ℕ) (m d : ℕ) → m ≤ t d → part t m d ≡ d
part-open t m d h = elim (cases_lt d m) [ inl low ↦ part_outside t m d low h | inr high ↦ part-beyond t m d high ]

pub part-involution : (n : ℕ) (t : ℕ → ℕ) (m : ℕ) → IsInvolutionBelow n t → m ≤ n → IsInvolutionBelow n (part t m)
part-involution n t m i h = record {
  stays = λ d hd. elim (cases_lt d m) [
    | inl low ↦ elim (cases_lt (t d) m) [
      | inl low' ↦ omega (arith, part-in t m d low low', i.stays d hd)
      | inr high' ↦ omega (arith, part-open t m d high', hd)
    ]
    | inr high ↦ omega (arith, part-beyond t m d high, hd)
  ];
  twice = λ d hd. elim (cases_lt d m) [
    | inl low ↦ elim (cases_lt (t d) m) [
      | inl low' ↦
          let back : t (t d) < m = omega (arith, i.twice d hd, low) in
          ap (part t m) (part-in t m d low low') ∙ part-in t m (t d) low' back ∙ i.twice d hd
      | inr high' ↦ ap (part t m) (part-open t m d high') ∙ part-open t m d high'
    ]
    | inr high ↦ ap (part t m) (part-beyond t m d high) ∙ part-beyond t m d high
  ];
}

-- a bound that is the lesser end of its pair, or alone, brings no pair
pub part-idle : (n : ℕ) (t : ℕ → ℕ) (m : ℕ) → IsInvolutionBelow n t → m < n → m ≤ t m → (k : ℕ) → k < n → part t m k ≡ part t (suc m) k
part-idle n t m i h idle k hk = elim (cases_lt k m) [
  | inl low ↦ elim (cases_lt (t k) m) [
    | inl low' ↦ part-in t m k low low' ∙ sym (part-in t (suc m) k (omega arith) (omega arith))
    | inr high' ↦ elim (cases_eq (t k) m) [
      | inl at_end ↦ absurd (omega (arith, low, idle, ap t at_end, i.twice k hk))
      | inr beyond ↦ part-open t m k high' ∙ sym (part-open t (suc m) k (omega (arith, high', beyond)))
    ]
  ]
  | inr high ↦ elim (cases_eq k m) [
    | inl here ↦ elim (cases_eq (t k) k) [
      | inl alone ↦ part-beyond t m k high ∙ sym alone ∙ sym (part-in t (suc m) k (omega (arith, here)) (omega (arith, here, alone)))
      | inr moved ↦
          let beyond : suc m ≤ t k = omega (arith, idle, ap t here, moved, here) in
          part-beyond t m k high ∙ sym (part-open t (suc m) k beyond)
    ]
    | inr beyond ↦ part-beyond t m k high ∙ sym (part-beyond t (suc m) k (omega (arith, high, beyond)))
  ]
]

-- a bound that is the greater end of its pair brings that pair
pub part-other : (n : ℕ) (t : ℕ → ℕ) (m : ℕ) → IsInvolutionBelow n t → m < n → (k : ℕ) → k < n → (k ≡ t m → ⊥) → (k ≡ m → ⊥) → part t (suc m) k ≡ part t m k
part-other n t m i h k hk not_lesser not_greater = elim (cases_lt k m) [
  | inl low ↦ elim (cases_lt (t k) m) [
    | inl low' ↦ part-in t (suc m) k (omega arith) (omega arith) ∙ sym (part-in t m k low low')
    | inr high' ↦ elim (cases_eq (t k) m) [
      | inl at_end ↦ absurd (not_lesser (sym (i.twice k hk) ∙ ap t at_end))
      | inr beyond ↦ part-open t (suc m) k (omega (arith, high', beyond)) ∙ sym (part-open t m k high')
    ]
  ]
  | inr high ↦ part-beyond t (suc m) k (omega (arith, high, not_greater)) ∙ sym (part-beyond t m k high)
]

-- s after these pairs
pub after_part : (ℕ → ℕ) → (ℕ → ℕ) → ℕ → ℕ → ℕ
after_part s t m d = s (part t m d)

pub after_part-product : (n : ℕ) (s t : ℕ → ℕ) (m : ℕ) → IsProductBelow n (after_part s t m) s (part t m)
unfolding after_part
after_part-product n s t m = record { value = λ k h. refl }

pub after_part-value : (s t : ℕ → ℕ) (m d : ℕ) → after_part s t m d ≡ s (part t m d)
unfolding after_part
after_part-value s t m d = refl

pub after_part-permutes : (n : ℕ) (s t : ℕ → ℕ) (m : ℕ) → IsPermutationBelow n s → IsInvolutionBelow n t → m ≤ n → IsPermutationBelow n (after_part s t m)
after_part-permutes n s t m p i h =
    product-permutes n (after_part s t m) s (part t m) p (involution-permutes n (part t m) (part-involution n t m i h)) (after_part-product n s t m)

pub after_part-exchange : (n : ℕ) (s t : ℕ → ℕ) (m : ℕ) → IsInvolutionBelow n t → m < n → t m < m
    → IsExchangeBelow n (after_part s t m) (after_part s t (suc m)) (t m) m
unfolding after_part
after_part-exchange n s t m i h lesser =
    let back : t (t m) ≡ m = i.twice m h in
    record {
      at_first = ap s (part-in t (suc m) (t m) (omega (arith, lesser)) (omega (arith, back)) ∙ back ∙ sym (part-beyond t m m (omega arith)));
      at_second = ap s (part-in t (suc m) m (omega arith) (omega (arith, lesser)) ∙ sym (part-open t m (t m) (omega (arith, back))));
      elsewhere = λ k hk not_lesser not_greater. ap s (part-other n t m i h k hk not_lesser not_greater);
    }

pub after_part-idle : (n : ℕ) (s t : ℕ → ℕ) (m : ℕ) → IsPermutationBelow n s → IsInvolutionBelow n t → m < n → m ≤ t m
    → cycles n (after_part s t m) ≡ cycles n (after_part s t (suc m))
unfolding after_part
after_part-idle n s t m p i h idle =
    cycles-same n (after_part s t m) (after_part s t (suc m)) (after_part-permutes n s t m p i (omega arith)) (λ k hk. ap s (part-idle n t m i h idle k hk))

pub after_part-none : (n : ℕ) (s t : ℕ → ℕ) → IsPermutationBelow n s → cycles n s ≡ cycles n (after_part s t 0)
unfolding after_part
after_part-none n s t p = cycles-same n s (after_part s t 0) p (λ k hk. ap s (sym (part-beyond t 0 k (omega arith))))

pub after_part-all : (n : ℕ) (f s t : ℕ → ℕ) → IsPermutationBelow n s → IsInvolutionBelow n t → IsProductBelow n f s t → cycles n (after_part s t n) ≡ cycles n f
unfolding after_part
after_part-all n f s t p i x =
    cycles-same n (after_part s t n) f (after_part-permutes n s t n p i (omega arith)) (λ k hk. ap s (part-in t n k hk (i.stays k hk)) ∙ sym (x.value k hk))

-- the pairs below the next bound
pub pairs-more : (t : ℕ → ℕ) (m : ℕ) → t m < m → pairs (suc m) t ≡ pairs m t + 1
pairs-more t m h = grind arith

pub pairs-idle : (t : ℕ → ℕ) (m : ℕ) → m ≤ t m → pairs (suc m) t ≡ pairs m t
pairs-idle t m h = grind arith

-- at most one more cycle for each pair
pub after_part-at_most : (n : ℕ) (s t : ℕ → ℕ) → IsPermutationBelow n s → IsInvolutionBelow n t → (m : ℕ) → m ≤ n → cycles n (after_part s t m) ≤ cycles n s + pairs m t
after_part-at_most n s t p i zero h = omega (arith, after_part-none n s t p)
after_part-at_most n s t p i (suc m) h =
    let before : cycles n (after_part s t m) ≤ cycles n s + pairs m t = after_part-at_most n s t p i m (omega arith) in
    elim (cases_lt (t m) m) [
      | inl lesser ↦
          let more : cycles n (after_part s t (suc m)) ≤ cycles n (after_part s t m) + 1 =
          cycles-at_most n (after_part s t m) (after_part s t (suc m)) (t m) m (after_part-permutes n s t m p i (omega arith)) (i.stays m (omega arith)) (omega arith)
          (after_part-exchange n s t m i (omega arith) lesser) in
          omega (arith, before, more, pairs-more t m lesser)
      | inr idle ↦ omega (arith, before, after_part-idle n s t m p i (omega arith) idle, pairs-idle t m idle)
    ]

-- the product with pairs has at most one more cycle for each pair
pub cycles-pairs_at_most : (n : ℕ) (f s t : ℕ → ℕ) → IsPermutationBelow n s → IsInvolutionBelow n t → IsProductBelow n f s t → cycles n f ≤ cycles n s + pairs n t
cycles-pairs_at_most n f s t p i x = omega (arith, after_part-at_most n s t p i n (omega arith), after_part-all n f s t p i x)
