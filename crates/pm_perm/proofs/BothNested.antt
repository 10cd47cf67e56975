-- Pairs of two kinds on the ring, which split it into as many cycles as can be: those of either kind are nested.
use Rattle.std.proofs.Common.{◌≡◌, ℕ, ◌+◌, ◌<◌, ◌≤◌, ◌⊎◌, inl, inr, ltb, ap, arith}
use Rattle.std.proofs.lemmas.Bool.{le-ltb}
use Rattle.pm_perm.specs.Cycles.{cycles}
use Rattle.pm_perm.specs.Exchange.{IsProductBelow}
use Rattle.pm_perm.specs.Pairs.{IsRingBelow, IsInvolutionBelow, IsNestedBelow, pairs}
use Rattle.pm_perm.proofs.Counts.{count_below-split}
use Rattle.pm_perm.proofs.Nested.{nested-of_cycles}
use Rattle.pm_perm.proofs.PartPairs.{cycles-pairs_at_most}
use Rattle.pm_perm.proofs.Renumbered.{ring-permutes, cycles-ring}

-- pairs of which each is of one of two kinds
pub pairs-parted : (n : ℕ) (t a b : ℕ → ℕ) → ((k : ℕ) → k < n → ((a k ≡ t k) × (b k ≡ k)) ⊎ ((a k ≡ k) × (b k ≡ t k))) → pairs n a + pairs n b ≡ pairs n t
pairs-parted n t a b kinds = count_below-split (λ k. ltb (a k) k) (λ k. ltb (b k) k) (λ k. ltb (t k) k) n (λ k h. elim (kinds k h) [
  | inl one ↦ inl (ap (λ v. ltb v k) one.0, le-ltb (b k) k (omega (arith, one.1)))
  | inr other ↦ inr (le-ltb (a k) k (omega (arith, other.0)), ap (λ v. ltb v k) other.1)
])

-- where the products of the ring after the pairs of either kind have two cycles more than there are pairs in all, those of
-- either kind are nested
pub both_nested : (n : ℕ) (f g s a b : ℕ → ℕ) → 0 < n → IsRingBelow n s → IsInvolutionBelow n a → IsInvolutionBelow n b → IsProductBelow n f s a → IsProductBelow n g s b
    → cycles n f + cycles n g ≡ pairs n a + pairs n b + 2 → IsNestedBelow n a × IsNestedBelow n b
both_nested n f g s a b some ring pairs_a pairs_b product_a product_b full =
    let one : cycles n s ≡ 1 = cycles-ring n s some ring in
    let most_a : cycles n f ≤ cycles n s + pairs n a = cycles-pairs_at_most n f s a (ring-permutes n s ring) pairs_a product_a in
    let most_b : cycles n g ≤ cycles n s + pairs n b = cycles-pairs_at_most n g s b (ring-permutes n s ring) pairs_b product_b in (
      nested-of_cycles n f s a some ring pairs_a product_a (omega (arith, one, most_a, most_b, full)),
      nested-of_cycles n g s b some ring pairs_b product_b (omega (arith, one, most_a, most_b, full)),
    )
