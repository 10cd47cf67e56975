-- The edges by kind: whether the edge is cut, by the levels of its two darts.
use Rattle.std.proofs.Common.{◌≡◌, ℕ, suc, ◌<◌, ◌≤◌, true, false, ap, ◌∙◌, eq-eqb, ne_eqb, arith}
use Rattle.pm_map.specs.Structure.{Structure}
use Rattle.pm_walk.proofs.Edges.{cut_is_out, cut_is_twin_out}
use Rattle.pm_distances.proofs.Walked.{is_up, is_cut}

pub is_up_yes : (s : Structure) (level : ℕ → ℕ) (d : ℕ) → level (s.twin d) ≡ suc (level d) → is_up s level d ≡ true
is_up_yes s level d e = eq-eqb (level (s.twin d)) (suc (level d)) e

pub is_up_no : (s : Structure) (level : ℕ → ℕ) (d : ℕ) → level (s.twin d) ≤ level d → is_up s level d ≡ false
is_up_no s level d l = ne_eqb (level (s.twin d)) (suc (level d)) (λ e. higher l e) where
  higher : level (s.twin d) ≤ level d → level (s.twin d) ≡ suc (level d) → ⊥
  higher l e = omega arith

-- an edge is cut or not by the levels of its two darts, of which the one that is met first counts
pub cut_at_own : (s : Structure) (level : ℕ → ℕ) (d : ℕ) → d ≤ s.twin d → level (s.twin d) ≡ suc (level d) → is_cut s level d ≡ true
cut_at_own s level d l e = cut_is_out s (is_up s level) d l ∙ is_up_yes s level d e

pub kept_at_own : (s : Structure) (level : ℕ → ℕ) (d : ℕ) → d ≤ s.twin d → level (s.twin d) ≤ level d → is_cut s level d ≡ false
kept_at_own s level d l e = cut_is_out s (is_up s level) d l ∙ is_up_no s level d e

pub cut_at_twin : (s : Structure) (level : ℕ → ℕ) (d : ℕ) → s.twin (s.twin d) ≡ d → s.twin d < d → level d ≡ suc (level (s.twin d)) → is_cut s level d ≡ true
cut_at_twin s level d back l e = cut_is_twin_out s (is_up s level) d l ∙ is_up_yes s level (s.twin d) (ap level back ∙ e)

pub kept_at_twin : (s : Structure) (level : ℕ → ℕ) (d : ℕ) → s.twin (s.twin d) ≡ d → s.twin d < d → level d ≤ level (s.twin d) → is_cut s level d ≡ false
kept_at_twin s level d back l e = cut_is_twin_out s (is_up s level) d l ∙ is_up_no s level (s.twin d) (omega (arith, ap level back))
