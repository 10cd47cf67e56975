-- The cycles of a rotation and their sizes are carried where the darts are renumbered.
use Rattle.std.proofs.Common.{◌≡◌, ℕ, zero, suc, ◌<◌, refl, sym, ◌∙◌, ap, subst}
use Rattle.pm_perm.specs.Permutation.{IsPermutationBelow}
use Rattle.pm_perm.specs.Cycles.{repeated, IsInCycle}
use Rattle.pm_perm.proofs.Repeats.{repeated-inside}
use Rattle.pm_perm.proofs.InverseLemmas.{place_of, place_of-stays, value-place_of}
use Rattle.pm_map.specs.Structure.{Structure, IsStructure, CarriesTo, Same}
use Rattle.pm_map.specs.CycleSize.{IsCycleSize}

module _ (f : ℕ → ℕ) (a b : Structure) (c : CarriesTo f a b) (perm : IsPermutationBelow a.darts a.next) where
  carried_steps : (k p : ℕ) → p < a.darts → f (repeated a.next k p) ≡ repeated b.next k (f p)
  carried_steps zero p l = refl
  carried_steps (suc k) p l = c.next (repeated a.next k p) (repeated-inside a.next a.darts perm k p l) ∙ ap b.next (carried_steps k p l)

  pub cycle_carried : (p q : ℕ) → p < a.darts → IsInCycle a.next p q → IsInCycle b.next (f p) (f q)
  cycle_carried p q l h = record { steps = h.steps; leads = sym (carried_steps h.steps p l) ∙ ap f h.leads }

  pub cycle_back : (p q : ℕ) → p < a.darts → q < a.darts → IsInCycle b.next (f p) (f q) → IsInCycle a.next p q
  cycle_back p q l m h = record { steps = h.steps; leads = c.renumbers.injective (repeated a.next h.steps p) q (repeated-inside a.next a.darts perm h.steps p l) m (carried_steps h.steps p l ∙ h.leads) }

  -- a dart's vertex has the degree that it had
  pub size_carried : (p size : ℕ) → p < a.darts → IsCycleSize a.next p size → IsCycleSize b.next (f p) size
  size_carried p size l is = record {
    some = is.some;
    back = sym (carried_steps size p l) ∙ ap f is.back;
    least = λ k some less e. is.least k some less (c.renumbers.injective (repeated a.next k p) p (repeated-inside a.next a.darts perm k p l) l (carried_steps k p l ∙ e));
  }

-- so where all vertices have one degree, all have it afterwards
pub sizes_carried : (a b : Structure) (size : ℕ) → IsStructure a → Same a b → ((d : ℕ) → d < a.darts → IsCycleSize a.next d size) → (d : ℕ) → d < b.darts → IsCycleSize b.next d size
sizes_carried a b size is same sizes d less =
    let within : d < a.darts = subst (λ n. d < n) (sym same.1.darts) less in
    let from : place_of same.0 a.darts d < a.darts = place_of-stays same.0 a.darts d same.1.renumbers within in
    subst (λ e. IsCycleSize b.next e size) (value-place_of same.0 a.darts d same.1.renumbers within)
    (size_carried same.0 a b same.1 is.rotation (place_of same.0 a.darts d) size from (sizes (place_of same.0 a.darts d) from))
