-- What one change makes of a count, and an exchange of two values of the inverse.
use Rattle.std.proofs.Common.{◌≡◌, ◌≢◌, ℕ, ◌+◌, ◌<◌, Bool, not, ◌&&◌, eqb, cond, inl, inr, List, length, get_or, set, slice_index, refl, sym, ap, ◌∙◌, arith, length-set, get_or-set_same, get_or-set_other}
use Rattle.std.proofs.lemmas.Bool.{cases_eq}
use Rattle.pm_perm.specs.Count.{count_below}
use Rattle.pm_perm.specs.Exchange.{IsExchangeBelow}
use Rattle.pm_perm.specs.Lists.{IsInverseList}
use Rattle.pm_perm.specs.Permutation.{IsPermutationList}
use Rattle.pm_perm.proofs.Counts.{count_below-same, count_below-without}
use Rattle.pm_perm.proofs.PlacesWritten.{placed-inverse}

-- two tests that differ at one number at most
pub count_below-changed : (P Q : ℕ → Bool) (a n : ℕ) → a < n → ((k : ℕ) → k < n → k ≢ a → P k ≡ Q k)
    → count_below P n + cond (Q a) 1 0 ≡ count_below Q n + cond (P a) 1 0
count_below-changed P Q a n h same =
    let first = count_below-without P a n h in
    let second = count_below-without Q a n h in
    let rest = count_below-same (λ k. P k && not (eqb k a)) (λ k. Q k && not (eqb k a)) n (λ k lt. elsewhere P Q a k (same k lt)) in
    omega (arith, first, second, rest) where
      left_out : (p q : Bool) (k a : ℕ) → k ≡ a → (p && not (eqb k a)) ≡ (q && not (eqb k a))
      left_out p q k a e = grind arith

      elsewhere : (P Q : ℕ → Bool) (a k : ℕ) → (k ≢ a → P k ≡ Q k) → (P k && not (eqb k a)) ≡ (Q k && not (eqb k a))
      elsewhere P Q a k e = elim (cases_eq k a) [ inl here ↦ left_out (P k) (Q k) k a here | inr other ↦ ap (λ b. b && not (eqb k a)) (e other) ]

-- the exchange of two values of a permutation, written into its inverse
pub inverse-exchanged : (values after inverse : List ℕ) (a b : ℕ) → IsPermutationList values → IsPermutationList after → IsInverseList values inverse
    → length after ≡ length values → a < length values → b < length values → IsExchangeBelow (length values) (slice_index values) (slice_index after) a b
    → IsInverseList after (set (set inverse (slice_index after a) a) (slice_index after b) b)
inverse-exchanged values after inverse a b p q w same ha hb x =
    placed-inverse after (set (set inverse (slice_index after a) a) (slice_index after b) b) (length after) q refl (record {
      same_length = length-set _ _ _ ∙ length-set _ _ _ ∙ w.same_length ∙ sym same;
      placed = λ j hj. elim (cases_eq j b) [
        | inl here ↦
            ap (λ k. get_or (set (set inverse (slice_index after a) a) (slice_index after b) b) (slice_index after k) 0) here
            ∙ get_or-set_same (set inverse (slice_index after a) a) (slice_index after b) b 0 (within (slice_index after b) (length-set inverse (slice_index after a) a) (q.stays b (omega (arith, hb, same)))) ∙ sym here
        | inr other ↦
            get_or-set_other (set inverse (slice_index after a) a) (slice_index after b) (slice_index after j) b 0 (apart j b hj (omega (arith, hb, same)) other)
            ∙ first_written j hj other
      ];
    }) where
      within : (v : ℕ) → length (set inverse (slice_index after a) a) ≡ length inverse → v < length after → v < length (set inverse (slice_index after a) a)
      within v e h = omega (arith, e, h, w.same_length, same)

      apart : (j k : ℕ) → j < length after → k < length after → (j ≡ k → ⊥) → slice_index after j ≢ slice_index after k
      apart j k hj hk ne e = ne (q.injective j k hj hk e)

      first_written : (j : ℕ) → j < length after → (j ≡ b → ⊥) → get_or (set inverse (slice_index after a) a) (slice_index after j) 0 ≡ j
      first_written j hj other = elim (cases_eq j a) [
        | inl here ↦
            ap (λ k. get_or (set inverse (slice_index after a) a) (slice_index after k) 0) here
            ∙ get_or-set_same inverse (slice_index after a) a 0 (let s = q.stays a (omega (arith, ha, same)) in omega (arith, s, w.same_length, same)) ∙ sym here
        | inr neither ↦
            get_or-set_other inverse (slice_index after a) (slice_index after j) a 0 (apart j a hj (omega (arith, ha, same)) neither)
            ∙ ap (slice_index inverse) (x.elsewhere j (omega (arith, hj, same)) neither other) ∙ w.undoes j (omega (arith, hj, same))
      ]
