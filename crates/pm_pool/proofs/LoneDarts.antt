-- Laws of cycles and of part maps where one number is alone, and counts where only some numbers are live. They speak of no
-- region: their place is beside the laws of part maps.
use Rattle.std.proofs.Common.{IsTrue, subst, ◌≡◌, ◌≢◌, ℕ, zero, suc, ◌+◌, ◌<◌, ◌⊎◌, ◌&&◌, Bool, true, false, not, eqb, inl, inr, refl, sym, ap, ◌∙◌, arith, eq-eqb, List, [], ◌∷◌}
use Rattle.pm_perm.specs.Count.{count_below}
use Rattle.pm_perm.specs.CycleList.{IsCycleFrom}
use Rattle.pm_perm.proofs.CycleLists.{cycle-splits, cycles-join}
use Rattle.pm_perm.specs.Cycles.{IsInCycle, cycles, leader, repeated}
use Rattle.pm_perm.specs.Exchange.{IsExchangeBelow}
use Rattle.pm_perm.specs.Pairs.{IsInvolutionBelow}
use Rattle.pm_perm.specs.Permutation.{IsPermutationBelow}
use Rattle.pm_perm.proofs.Counts.{count_below-parts, count_below-split}
use Rattle.pm_perm.proofs.LeaderMaps.{leader-is_least}
use Rattle.pm_perm.proofs.Merged.{exchange-merges}
use Rattle.pm_perm.proofs.SameCycle.{in_cycle-back, leader-in_cycle}

-- a number that is its own image is alone in its cycle
pub lone-in_cycle : (f : ℕ → ℕ) (d e : ℕ) → f d ≡ d → IsInCycle f d e → d ≡ e
lone-in_cycle f d e fixed met = sym (stays met.steps) ∙ met.leads where
  stays : (steps : ℕ) → repeated f steps d ≡ d
  stays zero = refl
  stays (suc steps) = ap f (stays steps) ∙ fixed

pub lone-leader : (n : ℕ) (f : ℕ → ℕ) (d : ℕ) → IsPermutationBelow n f → d < n → f d ≡ d → leader n f d ≡ d
lone-leader n f d p h fixed = sym (lone-in_cycle f d (leader n f d) fixed (leader-is_least n f p d h).met)

pub lone-apart : (n : ℕ) (f : ℕ → ℕ) (a d : ℕ) → IsPermutationBelow n f → a < n → a ≢ d → f d ≡ d → IsInCycle f a d → ⊥
lone-apart n f a d p h differ fixed met = differ (sym (lone-in_cycle f d a fixed (in_cycle-back n f p a d h met)))

-- the exchange with a number that is alone puts it into a cycle: there is one cycle fewer
pub lone-fewer : (n : ℕ) (f g : ℕ → ℕ) (a d : ℕ) → IsPermutationBelow n f → a < n → d < n → a ≢ d → f d ≡ d → IsExchangeBelow n f g a d
    → cycles n g + 1 ≡ cycles n f
lone-fewer n f g a d p ha hd differ fixed x =
    (exchange-merges n f g a d p ha hd x (λ e. lone-apart n f a d p ha differ fixed (leader-in_cycle n f p a d ha hd e))).fewer

-- where each number that isn't live is alone, the cycles are those with a live number and one for each that isn't
pub live_cycles-all : (n : ℕ) (live : ℕ → Bool) (f : ℕ → ℕ) → IsPermutationBelow n f → ((d : ℕ) → d < n → live d ≡ false → f d ≡ d)
    → count_below (λ d. live d && eqb (leader n f d) d) n + n ≡ cycles n f + count_below live n
live_cycles-all n live f p alone =
    let parts = count_below-split (λ d. live d && eqb (leader n f d) d) (λ d. not (live d)) (λ d. eqb (leader n f d) d) n
    (λ d h. one (live d) (eqb (leader n f d) d) (λ dead. eq-eqb (leader n f d) d (lone-leader n f d p h (alone d h dead)))) in
    let whole = count_below-parts live (λ d. not (live d)) n (λ d h. twice (live d)) in
    omega (arith, parts, whole) where
      one : (b e : Bool) → (b ≡ false → e ≡ true) → (((b && e) ≡ e) × (not b ≡ false)) ⊎ (((b && e) ≡ false) × (not b ≡ e))
      one true e h = inl (refl, refl)
      one false e h = inr (refl, sym (h refl))

      twice : (b : Bool) → b ≡ not (not b)
      twice true = refl
      twice false = refl

-- the exchange of the values of s at `at` and at d, which t keeps, exchanges two values of s after t
pub product-exchange : (n : ℕ) (s s' t t' : ℕ → ℕ) (at d : ℕ) → IsInvolutionBelow n t → ((k : ℕ) → t' k ≡ t k) → at < n → t d ≡ d → IsExchangeBelow n s s' at d
    → IsExchangeBelow n (λ k. s (t k)) (λ k. s' (t' k)) (t at) d
product-exchange n s s' t t' at d v same h fixed x = record {
  at_first = ap s' (same (t at) ∙ v.twice at h) ∙ x.at_first ∙ ap s (sym fixed);
  at_second = ap s' (same d ∙ fixed) ∙ x.at_second ∙ ap s (sym (v.twice at h));
  elsewhere = λ k lt other neither. ap s' (same k)
      ∙ x.elsewhere (t k) (v.stays k lt) (λ e. other (sym (v.twice k lt) ∙ ap t e)) (λ e. neither (sym (v.twice k lt) ∙ ap t e ∙ fixed));
}

-- the cycle of a number that is alone, as a list
pub lone-list : (f : ℕ → ℕ) (d : ℕ) → f d ≡ d → IsCycleFrom f d (d ∷ [])
lone-list f d fixed = record { begins = refl; goes = λ k h. absurd (omega (arith, h)); ends = fixed; once = λ k h. absurd (omega (arith, h)) }

-- one number that was alone comes into a cycle after a
pub lone-joins : (n : ℕ) (f g : ℕ → ℕ) (a d : ℕ) (rest : List ℕ) → IsPermutationBelow n f → a < n → d < n → a ≢ d → f d ≡ d → IsExchangeBelow n f g a d
    → IsCycleFrom f a (a ∷ rest) → IsCycleFrom g a (a ∷ d ∷ rest)
lone-joins n f g a d rest p ha hd differ fixed x c = cycles-join n f g a d [] rest p ha hd x (lone-apart n f a d p ha differ fixed) c (lone-list f d fixed)

-- and goes out of it
pub lone-leaves : (n : ℕ) (f g : ℕ → ℕ) (a d : ℕ) (rest : List ℕ) → IsPermutationBelow n f → a < n → IsExchangeBelow n f g a d
    → IsCycleFrom f a (a ∷ d ∷ rest) → IsCycleFrom g a (a ∷ rest)
lone-leaves n f g a d rest p ha x c = (cycle-splits n f g a d [] rest p ha x c).0

-- a test along an equation
pub holds_at : (holds : ℕ → Bool) (a b : ℕ) → a ≡ b → IsTrue (holds a) → IsTrue (holds b)
holds_at holds a b e h = subst (λ k. IsTrue (holds k)) e h
