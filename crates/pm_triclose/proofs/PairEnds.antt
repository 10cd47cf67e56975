-- Pairs counted by a test that one end of each passes.
use Rattle.std.proofs.Common.{◌≡◌, ◌≢◌, ℕ, ◌<◌, ◌≤◌, Bool, true, false, cond, ltb, inl, inr, refl, sym, ap, ◌∙◌, arith, lt-ltb}
use Rattle.std.proofs.lemmas.Bool.{cases_order, ltb-true}
use Rattle.pm_perm.specs.Count.{count_below}
use Rattle.pm_perm.specs.Pairs.{IsInvolutionBelow, pairs}
use Rattle.pm_perm.proofs.Counts.{count_below-into}

-- of the two ends of a pair one passes, and of the numbers that aren't in a pair none does
pub record IsOneEnd (n : ℕ) (t : ℕ → ℕ) (P : ℕ → Bool) : Type 0 where
  pub moves : (k : ℕ) → k < n → P k ≡ true → t k ≢ k
  pub other : (k : ℕ) → k < n → P k ≡ true → P (t k) ≡ false
  pub some : (k : ℕ) → k < n → t k ≢ k → P k ≡ false → P (t k) ≡ true

module _ (n : ℕ) (t : ℕ → ℕ) (P : ℕ → Bool) (v : IsInvolutionBelow n t) (e : IsOneEnd n t P) where
  -- a number, or its partner where it doesn't pass a test
  chosen : (ℕ → Bool) → ℕ → ℕ
  chosen Q k = cond {A = ℕ} (Q k) k (t k)

  data IsChosen (Q : ℕ → Bool) (k : ℕ) : Type 0 where
    itself : Q k ≡ true → chosen Q k ≡ k → IsChosen Q k
    partner : Q k ≡ false → chosen Q k ≡ t k → IsChosen Q k

  chosen_is : (Q : ℕ → Bool) (k : ℕ) → IsChosen Q k
  unfolding chosen
  chosen_is Q k = by_test (Q k) refl where
    by_test : (b : Bool) → Q k ≡ b → IsChosen Q k
    by_test true f = itself f (ap (λ (c : Bool). cond {A = ℕ} c k (t k)) f)
    by_test false f = partner f (ap (λ (c : Bool). cond {A = ℕ} c k (t k)) f)

  within : (Q : ℕ → Bool) (k : ℕ) → k < n → chosen Q k < n
  within Q k l = found (chosen_is Q k) where
    found : IsChosen Q k → chosen Q k < n
    found (itself f g) = omega (arith, g, l)
    found (partner f g) = let m = v.stays k l in omega (arith, g, m)

  -- two numbers with one choice are one, or partners
  alike : (Q : ℕ → Bool) (j k : ℕ) → j < n → k < n → (t j ≡ k → ⊥) → chosen Q j ≡ chosen Q k → j ≡ k
  alike Q j k l m apart same = found (chosen_is Q j) (chosen_is Q k) where
    found : IsChosen Q j → IsChosen Q k → j ≡ k
    found (itself f g) (itself f' g') = omega (arith, g, g', same)
    found (partner f g) (partner f' g') = sym (v.twice j l) ∙ ap t (sym g ∙ same ∙ g') ∙ v.twice k m
    found (itself f g) (partner f' g') = let h : j ≡ t k = omega (arith, g, g', same) in absurd (apart (ap t h ∙ v.twice k m))
    found (partner f g) (itself f' g') = absurd (apart (omega (arith, g, g', same)))

  greater : ℕ → Bool
  greater k = ltb (t k) k

  greater_is : (k : ℕ) → greater k ≡ ltb (t k) k
  unfolding greater
  greater_is k = refl

  fewer : count_below (λ k. ltb (t k) k) n ≤ count_below P n
  fewer = count_below-into (λ k. ltb (t k) k) P (chosen P) n n (λ k l f. within P k l) (λ k l f. passes k l f (chosen_is P k))
      (λ j k l m f g. alike P j k l m (λ h. let a = ltb-true (t j) j f in let b = ltb-true (t k) k g in let c = v.twice j l in let d = ap t h in omega (arith, a, b, c, d, h))) where
        passes : (k : ℕ) → k < n → ltb (t k) k ≡ true → IsChosen P k → P (chosen P k) ≡ true
        passes k l f (itself h g) = ap P g ∙ h
        passes k l f (partner h g) = let a = ltb-true (t k) k f in ap P g ∙ e.some k l (λ s. omega (arith, s, a)) h

  more : count_below P n ≤ count_below (λ k. ltb (t k) k) n
  unfolding greater
  more = count_below-into P (λ k. ltb (t k) k) (chosen greater) n n (λ k l f. within greater k l) (λ k l f. passes k l f (chosen_is greater k))
      (λ j k l m f g. alike greater j k l m (λ h. differ (sym (e.other j l f) ∙ ap P h ∙ g))) where
        differ : false ≡ true → ⊥
        differ f = let g = ap (λ (c : Bool). cond {A = ℕ} c 1 0) f in omega (arith, g)

        passes : (k : ℕ) → k < n → P k ≡ true → IsChosen greater k → ltb (t (chosen greater k)) (chosen greater k) ≡ true
        passes k l f (itself h g) = ap (λ (i : ℕ). ltb (t i) i) g ∙ h
        passes k l f (partner h g) =
            let ne = e.moves k l f in
            ap (λ (i : ℕ). ltb (t i) i) g ∙ ap (λ (i : ℕ). ltb i (t k)) (v.twice k l) ∙ lt-ltb k (t k) (elim (cases_order k (t k)) [
              | inl same ↦ absurd (ne (sym same))
              | inr order ↦ elim order [ inl less ↦ less | inr past ↦ absurd (differ (sym h ∙ lt-ltb (t k) k past)) ]
            ])

  pub pairs-one_end : pairs n t ≡ count_below P n
  pairs-one_end = omega (arith, fewer, more)
