-- Pairs that split a permutation as often as they can stand each in one cycle.
use Rattle.std.proofs.Common.{◌≡◌, ℕ, ◌+◌, ◌<◌, ◌≤◌, cond, eqb, inl, inr, refl, ap, sym, ◌∙◌, arith, eq-eqb, ne_eqb}
use Rattle.std.proofs.lemmas.Bool.{cases_eq, cond-true, cond-false}
use Rattle.pm_perm.specs.Permutation.{IsPermutationBelow}
use Rattle.pm_perm.specs.Cycles.{leader, cycles}
use Rattle.pm_perm.specs.Exchange.{IsExchangeBelow, IsProductBelow}
use Rattle.pm_perm.specs.Pairs.{IsInvolutionBelow, pairs}
use Rattle.pm_perm.proofs.Merged.{exchange-merges, exchange-permutes}
use Rattle.pm_perm.proofs.PairCounts.{pairs-one_more}
use Rattle.pm_perm.proofs.PartPairs.{cycles-pairs_at_most}

-- the function with other values at two numbers
with_two : (ℕ → ℕ) → ℕ → ℕ → ℕ → ℕ → ℕ → ℕ
with_two f a x b y k = cond (eqb k a) x (cond (eqb k b) y (f k))

two-first : (f : ℕ → ℕ) (a x b y k : ℕ) → k ≡ a → with_two f a x b y k ≡ x
unfolding with_two
two-first f a x b y k e = cond-true (eqb k a) x (cond (eqb k b) y (f k)) (eq-eqb k a e)

two-second : (f : ℕ → ℕ) (a x b y k : ℕ) → (k ≡ a → ⊥) → k ≡ b → with_two f a x b y k ≡ y
unfolding with_two
two-second f a x b y k n e = cond-false (eqb k a) x (cond (eqb k b) y (f k)) (ne_eqb k a n) ∙ cond-true (eqb k b) y (f k) (eq-eqb k b e)

two-other : (f : ℕ → ℕ) (a x b y k : ℕ) → (k ≡ a → ⊥) → (k ≡ b → ⊥) → with_two f a x b y k ≡ f k
unfolding with_two
two-other f a x b y k n m = cond-false (eqb k a) x (cond (eqb k b) y (f k)) (ne_eqb k a n) ∙ cond-false (eqb k b) y (f k) (ne_eqb k b m)

-- a pair in two cycles, exchanged first: it takes a cycle, and the other pairs can't make up for it
module _ (n : ℕ) (f s t : ℕ → ℕ) (p : IsPermutationBelow n s) (v : IsInvolutionBelow n t) (x : IsProductBelow n f s t) (d : ℕ) (h : d < n) (apart : leader n s d ≡ leader n s (t d) → ⊥) where
  differ : d ≡ t d → ⊥
  differ e = apart (ap (leader n s) e)

  joined : ℕ → ℕ
  joined = with_two s d (s (t d)) (t d) (s d)

  rest : ℕ → ℕ
  rest = with_two t d d (t d) (t d)

  exchanged : IsExchangeBelow n s joined d (t d)
  unfolding joined
  exchanged = record {
    at_first = two-first s d (s (t d)) (t d) (s d) d refl;
    at_second = two-second s d (s (t d)) (t d) (s d) (t d) (λ e. differ (sym e)) refl;
    elsewhere = λ k l. two-other s d (s (t d)) (t d) (s d) k;
  }

  rest-at : (k : ℕ) → k < n → (k ≡ d → ⊥) → (k ≡ t d → ⊥) → rest k ≡ t k
  unfolding rest
  rest-at k l = two-other t d d (t d) (t d) k

  rest-first : rest d ≡ d
  unfolding rest
  rest-first = two-first t d d (t d) (t d) d refl

  rest-second : rest (t d) ≡ t d
  unfolding rest
  rest-second = two-second t d d (t d) (t d) (t d) (λ e. differ (sym e)) refl

  not_first : (k : ℕ) → k < n → (k ≡ t d → ⊥) → t k ≡ d → ⊥
  not_first k l other e = other (sym (v.twice k l) ∙ ap t e)

  not_second : (k : ℕ) → k < n → (k ≡ d → ⊥) → t k ≡ t d → ⊥
  not_second k l other e = other (sym (v.twice k l) ∙ ap t e ∙ v.twice d h)

  rest-involution : IsInvolutionBelow n rest
  rest-involution = record {
    stays = λ k l. elim (cases_eq k d) [
      | inl e ↦ omega (arith, ap rest e, rest-first, h)
      | inr a ↦ elim (cases_eq k (t d)) [ inl e ↦ omega (arith, ap rest e, rest-second, v.stays d h) | inr b ↦ omega (arith, rest-at k l a b, v.stays k l) ]
    ];
    twice = λ k l. elim (cases_eq k d) [
      | inl e ↦ ap (λ i. rest (rest i)) e ∙ ap rest rest-first ∙ rest-first ∙ sym e
      | inr a ↦ elim (cases_eq k (t d)) [
        | inl e ↦ ap (λ i. rest (rest i)) e ∙ ap rest rest-second ∙ rest-second ∙ sym e
        | inr b ↦ ap rest (rest-at k l a b) ∙ rest-at (t k) (v.stays k l) (not_first k l b) (not_second k l a) ∙ v.twice k l
      ]
    ];
  }

  product : IsProductBelow n f joined rest
  product = record {
    value = λ k l. elim (cases_eq k d) [
      | inl e ↦ ap f e ∙ x.value d h ∙ sym (ap joined (ap rest e ∙ rest-first) ∙ exchanged.at_first)
      | inr a ↦ elim (cases_eq k (t d)) [
        | inl e ↦ ap f e ∙ x.value (t d) (v.stays d h) ∙ ap s (v.twice d h) ∙ sym (ap joined (ap rest e ∙ rest-second) ∙ exchanged.at_second)
        | inr b ↦ x.value k l ∙ sym (ap joined (rest-at k l a b) ∙ exchanged.elsewhere (t k) (v.stays k l) (not_first k l b) (not_second k l a))
      ]
    ];
  }

  fewer_cycles : cycles n f + 2 ≤ cycles n s + pairs n t
  fewer_cycles =
      let merged = exchange-merges n s joined d (t d) p h (v.stays d h) exchanged apart in
      let few = cycles-pairs_at_most n f joined rest (exchange-permutes n s joined d (t d) p h (v.stays d h) exchanged) rest-involution product in
      let more = pairs-one_more n rest t d (t d) differ (record {
        first = h;
        second = v.stays d h;
        first_alone = rest-first;
        second_alone = rest-second;
        first_partner = refl;
        second_partner = v.twice d h;
        elsewhere = λ k l a b. sym (rest-at k l a b);
      }) in
      omega (arith, merged.fewer, few, more)

pub full_pairs : (n : ℕ) (f s t : ℕ → ℕ) → IsPermutationBelow n s → IsInvolutionBelow n t → IsProductBelow n f s t → cycles n s + pairs n t ≤ cycles n f → (d : ℕ) → d < n → leader n s d ≡ leader n s (t d)
full_pairs n f s t p v x full d h = elim (cases_eq (leader n s d) (leader n s (t d))) [
  | inl same ↦ same
  | inr apart ↦ absurd (let few = fewer_cycles n f s t p v x d h apart in omega (arith, few, full))
]
