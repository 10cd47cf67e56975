-- Bounds are bounds, and what is below them.
use Rattle.std.proofs.Common.{◌≡◌, ℕ, zero, suc, ◌+◌, ◌*◌, ◌^◌, ◌<◌, ◌≤◌, [], ◌∷◌, ◌++◌, length, length-append, replicate, refl, ◌∙◌, ap, arith}
use Rattle.std.specs.Prelude.{slice_index, All}
use Rattle.std.proofs.lemmas.List.{length-replicate}
use Rattle.std.proofs.lemmas.List.Elements.{All-append, All-replicate, All-nil, All-cons}
use Rattle.pm_lists.specs.ListLine.{AreWords}
use Rattle.pm_lists.specs.Valid.{AreBounds}
use Rattle.pm_objects.specs.Codes.{code_bounds}
use Rattle.pm_objects.proofs.CodeBounds.{code_positive}
use Rattle.pm_euler.specs.Bounds.{growth_bounds, quartic_choices, quartic_residues}

growth_positive : (grown n : ℕ) → All (λ bound. 1 ≤ bound) (growth_bounds grown n)
growth_positive grown zero = All-nil (λ (bound : ℕ). 1 ≤ bound)
growth_positive grown (suc n) = All-cons (λ (bound : ℕ). 1 ≤ bound) (2 * (2 * grown + 1)) (growth_bounds (suc grown) n) (omega arith) (growth_positive (suc grown) n)

pub quartic_choices_are : (n : ℕ) → AreBounds (quartic_choices n)
quartic_choices_are n = record {
  each = All-append (λ (bound : ℕ). 1 ≤ bound) (growth_bounds 0 n ++ replicate n 3) (2 ∷ [])
      (All-append (λ (bound : ℕ). 1 ≤ bound) (growth_bounds 0 n) (replicate n 3) (growth_positive 0 n) (All-replicate (λ (bound : ℕ). 1 ≤ bound) n 3 (omega arith)))
      (All-cons (λ (bound : ℕ). 1 ≤ bound) 2 [] (omega arith) (All-nil (λ (bound : ℕ). 1 ≤ bound)));
}

growth_fits : (grown n : ℕ) → grown + n ≤ 2 ^ 32 → All (λ bound. bound < 2 ^ 64) (growth_bounds grown n)
growth_fits grown zero few = All-nil (λ (bound : ℕ). bound < 2 ^ 64)
growth_fits grown (suc n) few = All-cons (λ (bound : ℕ). bound < 2 ^ 64) (2 * (2 * grown + 1)) (growth_bounds (suc grown) n) (omega (arith, few)) (growth_fits (suc grown) n (omega (arith, few)))

pub quartic_choices_fit : (n : ℕ) → n ≤ 2 ^ 32 → AreWords (quartic_choices n)
quartic_choices_fit n few = record {
  each = All-append (λ (bound : ℕ). bound < 2 ^ 64) (growth_bounds 0 n ++ replicate n 3) (2 ∷ [])
      (All-append (λ (bound : ℕ). bound < 2 ^ 64) (growth_bounds 0 n) (replicate n 3) (growth_fits 0 n (omega (arith, few))) (All-replicate (λ (bound : ℕ). bound < 2 ^ 64) n 3 (omega arith)))
      (All-cons (λ (bound : ℕ). bound < 2 ^ 64) 2 [] (omega arith) (All-nil (λ (bound : ℕ). bound < 2 ^ 64)));
}

pub quartic_residues_are : (n : ℕ) → AreBounds (quartic_residues n)
quartic_residues_are n = record { each = All-cons (λ (bound : ℕ). 1 ≤ bound) (n + 2) (code_bounds (n + 1)) (omega arith) (code_positive (n + 1)) }

pub length-growth_bounds : (grown n : ℕ) → length (growth_bounds grown n) ≡ n
length-growth_bounds grown zero = refl
length-growth_bounds grown (suc n) = ap suc (length-growth_bounds (suc grown) n)

-- the bound at a place
pub growth_bound : (grown n k : ℕ) → k < n → slice_index (growth_bounds grown n) k ≡ 2 * (2 * (grown + k) + 1)
growth_bound grown (suc n) zero less = let e : grown ≡ grown + 0 = omega arith in ap (λ (g : ℕ). 2 * (2 * g + 1)) e
growth_bound grown (suc n) (suc k) less = let e : suc grown + k ≡ grown + suc k = omega arith in growth_bound (suc grown) n k (omega arith) ∙ ap (λ (g : ℕ). 2 * (2 * g + 1)) e
growth_bound grown zero k less = absurd (omega arith)

-- the three parts of the choices of quartic maps
pub length-quartic_choices : (n : ℕ) → length (quartic_choices n) ≡ 2 * n + 1
length-quartic_choices n = simp (length-append, length-growth_bounds, length-replicate) (omega arith)
