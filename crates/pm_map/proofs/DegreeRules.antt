-- Darts whose vertices have degrees that are admitted, by a list of the degrees.
use Rattle.std.proofs.Common.{◌≡◌, ℕ, ◌<◌, inl, inr, List, ◌++◌, length, take, drop, slice_index, Option, sym, ◌∙◌, ap, subst, arith}
use Rattle.std.proofs.Math.Seq.{take-append_seam}
use Rattle.std.proofs.lemmas.Bool.{cases_order}
use Rattle.std.specs.Prelude.{MatchOption}
use Rattle.pm_perm.proofs.LeastLemmas.{least_is_unique}
use Rattle.pm_map.specs.declared.admitted.Degrees.{Degrees}
use Rattle.pm_map.specs.Structure.{Structure}
use Rattle.pm_map.specs.CycleSize.{IsCycleSize, AreCycleSizes}
use Rattle.pm_map.specs.ClassRules.{IsAdmitted, HasAdmittedDegree, AllAdmitted, IsLeastOther}
use Rattle.pm_map.specs.steps.DegreeScan.{AreAdmitted, IsLeastEntry}
use Rattle.pm_map.proofs.MarksLemmas.{MatchOption-weaker}

-- what is written over the whole of a list is what is read then
pub read_whole : (len : ℕ) (written before : List ℕ) → length written ≡ len → take len (written ++ drop (length written) before) ≡ written
read_whole len written before whole =
    ap (λ k. take k (written ++ drop (length written) before)) (sym whole) ∙ take-append_seam written (drop (length written) before)

-- a cycle has one size
pub cycle_size_is_unique : (f : ℕ → ℕ) (d a b : ℕ) → IsCycleSize f d a → IsCycleSize f d b → a ≡ b
cycle_size_is_unique f d a b is_a is_b = elim (cases_order a b) [
  | inl same ↦ same
  | inr apart ↦ elim apart [ inl less ↦ absurd (is_b.least a is_a.some less is_a.back) | inr more ↦ absurd (is_a.least b is_b.some more is_b.back) ]
]

-- there is one least dart whose degree isn't admitted
pub least_other_is_unique : (s : Structure) (degrees : Degrees) (a b : ℕ) → IsLeastOther s degrees a → IsLeastOther s degrees b → a ≡ b
least_other_is_unique s degrees = least_is_unique s.darts (HasAdmittedDegree s degrees) (λ d. HasAdmittedDegree s degrees d → ⊥) (λ d has not. not has)

-- the first entry that isn't admitted is the first dart whose degree isn't
pub other_from_entry : (s : Structure) (degrees : Degrees) (sizes : List ℕ) (found : Option ℕ) → length sizes ≡ s.darts → AreCycleSizes s.next sizes s.darts
    → MatchOption found (AreAdmitted degrees sizes) (IsLeastEntry degrees sizes) → MatchOption found (AllAdmitted s degrees) (IsLeastOther s degrees)
other_from_entry s degrees sizes found long are answer = MatchOption-weaker found answer (all s degrees sizes long are) (other s degrees sizes long are) where
  all : (s : Structure) (degrees : Degrees) (sizes : List ℕ) → length sizes ≡ s.darts → AreCycleSizes s.next sizes s.darts → AreAdmitted degrees sizes → AllAdmitted s degrees
  all s degrees sizes long are admitted d h = record { degree = slice_index sizes d; counted = are d h; admitted = admitted d (omega arith) }

  other : (s : Structure) (degrees : Degrees) (sizes : List ℕ) → length sizes ≡ s.darts → AreCycleSizes s.next sizes s.darts → (d : ℕ) → IsLeastEntry degrees sizes d → IsLeastOther s degrees d
  other s degrees sizes long are d entry =
      let within : d < s.darts = omega (arith, entry.within) in
      record {
        within = within;
        breaks = λ has. entry.breaks (subst (IsAdmitted degrees) (cycle_size_is_unique s.next d has.degree (slice_index sizes d) has.counted (are d within)) has.admitted);
        least = λ e less. record { degree = slice_index sizes e; counted = are e (omega (arith, less)); admitted = entry.least e less };
      }
