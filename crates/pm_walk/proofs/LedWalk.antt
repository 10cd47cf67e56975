-- Where the darts are numbered along the walk, the walk itself leads to all vertices and all faces.
use Rattle.std.proofs.Common.{◌≡◌, ℕ, zero, suc, ◌<◌, ◌≤◌, inl, inr, Bool, true, false, not, IsTrue, sym, ap, ◌∙◌, subst, arith}
use Rattle.std.proofs.Math.Nat.{mod-eq_of_lt}
use Rattle.std.proofs.lemmas.Bool.{cases_Bool, cases_eq}
use Rattle.pm_map.specs.Structure.{Structure, IsStructure, dual}
use Rattle.pm_walk.specs.Led.{IsClosedAlong, WalkedIsLed}
use Rattle.pm_walk.specs.Walk.{is_cut, IsWalkedInOrder}
use Rattle.pm_walk.proofs.Edges.{lesser_or_greater, cut_is_out, across_cut, across_kept}

-- what holds of the root and goes on from place to place holds of all
from_root : (holds : ℕ → Bool) (n : ℕ) → IsTrue (holds 0) → ((d : ℕ) → suc d < n → ((k : ℕ) → k ≤ d → IsTrue (holds k)) → IsTrue (holds (suc d)))
    → (d : ℕ) → d < n → (k : ℕ) → k ≤ d → IsTrue (holds k)
from_root holds n root goes zero l k le = subst (λ x. IsTrue (holds x)) (omega arith) root
from_root holds n root goes (suc d) l k le =
    let before : (j : ℕ) → j ≤ d → IsTrue (holds j) = from_root holds n root goes d (omega arith) in
    elim (cases_eq k (suc d)) [
      | inl last ↦ subst (λ x. IsTrue (holds x)) (sym last) (goes d l before)
      | inr early ↦ before k (omega (arith, le, early))
    ]

module _ (s : Structure) (out holds : ℕ → Bool) (is : IsStructure s) (walked : IsWalkedInOrder s out) where
  behind_cut : (d : ℕ) → suc d < s.darts → is_cut s out d ≡ true → s.next d ≡ suc d
  behind_cut d l cut = ap s.next (sym (across_cut s out d cut)) ∙ walked.onward d (omega arith) ∙ mod-eq_of_lt l

  behind_kept : (d : ℕ) → suc d < s.darts → is_cut s out d ≡ false → s.next (s.twin d) ≡ suc d
  behind_kept d l kept = ap s.next (sym (across_kept s out d kept)) ∙ walked.onward d (omega arith) ∙ mod-eq_of_lt l

  -- the twin was met before, or the dart is the first of its edge
  twin_held : (passes : ℕ → Bool) (d : ℕ) → d < s.darts → ((k : ℕ) → k ≤ d → IsTrue (holds k)) → (is_cut s out d ≡ out d → passes d ≡ true)
      → ((e : ℕ) → e < s.darts → passes e ≡ true → IsTrue (holds e) → IsTrue (holds (s.twin e))) → IsTrue (holds (s.twin d))
  twin_held passes d l before leads under = elim (lesser_or_greater s d is l) [
    | inl first ↦ under d l (leads (cut_is_out s out d (omega (arith, first)))) (before d (omega arith))
    | inr again ↦ before (s.twin d) (omega (arith, again))
  ]

  to_vertices : IsClosedAlong s (λ d. not (out d)) holds → (d : ℕ) → suc d < s.darts → ((k : ℕ) → k ≤ d → IsTrue (holds k)) → IsTrue (holds (suc d))
  to_vertices closed d l before = elim (cases_Bool (is_cut s out d)) [
    | inl cut ↦ subst (λ x. IsTrue (holds x)) (behind_cut d l cut) (closed.under_next d (omega arith) (before d (omega arith)))
    | inr kept ↦
        subst (λ x. IsTrue (holds x)) (behind_kept d l kept)
        (closed.under_next (s.twin d) (is.twin_stays d (omega arith))
        (twin_held (λ e. not (out e)) d (omega arith) before (λ e. ap not (sym e ∙ kept)) closed.under_twin))
  ]

  to_faces : IsClosedAlong (dual s) out holds → (d : ℕ) → suc d < s.darts → ((k : ℕ) → k ≤ d → IsTrue (holds k)) → IsTrue (holds (suc d))
  to_faces closed d l before = elim (cases_Bool (is_cut s out d)) [
    | inl cut ↦
        subst (λ x. IsTrue (holds x)) (ap s.next (is.twin_back d (omega arith)) ∙ behind_cut d l cut)
        (closed.under_next (s.twin d) (is.twin_stays d (omega arith)) (twin_held out d (omega arith) before (λ e. sym e ∙ cut) closed.under_twin))
    | inr kept ↦ subst (λ x. IsTrue (holds x)) (behind_kept d l kept) (closed.under_next d (omega arith) (before d (omega arith)))
  ]

pub walked_is_led : WalkedIsLed
walked_is_led s out is walked = (
  λ holds root closed d l. from_root holds s.darts (subst (λ x. IsTrue (holds x)) walked.root root) (to_vertices s out holds is walked closed) d l d (omega arith),
  λ holds root closed d l. from_root holds s.darts (subst (λ x. IsTrue (holds x)) walked.root root) (to_faces s out holds is walked closed) d l d (omega arith),
)
