-- Of structures that are the same, numbered along the walk and with equal tests, the renumbering moves no dart.
use Rattle.std.proofs.Common.{◌≡◌, ℕ, zero, suc, ◌<◌, ◌≤◌, inl, inr, Bool, true, false, cond, ltb, refl, sym, ap, ◌∙◌, arith}
use Rattle.std.proofs.Math.Nat.{mod-eq_of_lt}
use Rattle.std.proofs.lemmas.Bool.{cases_lt, cases_eq}
use Rattle.pm_map.specs.Structure.{Structure, IsStructure, CarriesTo}
use Rattle.pm_walk.specs.Laws.{WalkHasOneNumbering}
use Rattle.pm_walk.specs.Walk.{first_of, is_cut, across, IsWalkedInOrder}
use Rattle.pm_walk.proofs.Edges.{first_is_twin, first_is_own}

-- a choice after a function or before it
through : (f : ℕ → ℕ) (b : Bool) (x y : ℕ) → f (cond b x y) ≡ cond b (f x) (f y)
through f true x y = refl
through f false x y = refl

chosen_below : (b : Bool) (x y n : ℕ) → x < n → y < n → cond b x y < n
chosen_below true x y n l m = l
chosen_below false x y n l m = m

module _ (s t : Structure) (out t_out : ℕ → Bool) (rename : ℕ → ℕ) (structure : IsStructure s) (carries : CarriesTo rename s t) (same : (d : ℕ) → d < s.darts → t_out (rename d) ≡ out d) where
  -- where the darts up to d keep their numbers, so does the one of the edge that is met first
  module _ (d : ℕ) (l : d < s.darts) (fixed : (k : ℕ) → k ≤ d → rename k ≡ k) where
    pub twin_there : t.twin d ≡ rename (s.twin d)
    twin_there = ap t.twin (sym (fixed d (omega arith))) ∙ sym (carries.twin d l)

    -- a dart beyond d stays beyond it
    stays_beyond : (e : ℕ) → e < s.darts → d < e → d < rename e
    stays_beyond e m more = elim (cases_lt d (rename e)) [
      | inl beyond ↦ beyond
      | inr low ↦ absurd (differ d e more (carries.renumbers.injective (rename e) e (omega arith) m (fixed (rename e) low)) low)
    ] where
      differ : (d e : ℕ) → d < e → rename e ≡ e → rename e ≤ d → ⊥
      differ d e more same low = omega arith

    first_agrees : first_of t d ≡ rename (first_of s d)
    first_agrees = elim (cases_lt (s.twin d) d) [
      | inl less ↦
          let there : t.twin d ≡ s.twin d = twin_there ∙ fixed (s.twin d) (omega arith) in
          first_is_twin t d (omega (arith, there)) ∙ twin_there ∙ ap rename (sym (first_is_twin s d less))
      | inr more ↦
          let beyond : d < rename (s.twin d) = stays_beyond (s.twin d) (structure.twin_stays d l) (omega (arith, structure.twin_other d l)) in
          first_is_own t d (omega (arith, twin_there, beyond)) ∙ sym (fixed d (omega arith)) ∙ ap rename (sym (first_is_own s d more))
    ]

    pub cut_agrees : is_cut t t_out d ≡ is_cut s out d
    cut_agrees = ap t_out first_agrees ∙ same (first_of s d) (chosen_below (ltb (s.twin d) d) (s.twin d) d s.darts (structure.twin_stays d l) l)

    across_agrees : across t t_out d ≡ rename (across s out d)
    across_agrees =
        ap (λ (b : Bool). cond b d (t.twin d)) cut_agrees
        ∙ ap (λ (x : ℕ). cond (is_cut s out d) x (t.twin d)) (sym (fixed d (omega arith)))
        ∙ ap (λ (x : ℕ). cond (is_cut s out d) (rename d) x) twin_there
        ∙ sym (through rename (is_cut s out d) d (s.twin d))

    across_below : across s out d < s.darts
    across_below = chosen_below (is_cut s out d) d (s.twin d) s.darts l (structure.twin_stays d l)

    -- and so does the next dart of the walk
    next_fixed : IsWalkedInOrder s out → IsWalkedInOrder t t_out → suc d < s.darts → rename (suc d) ≡ suc d
    next_fixed walked t_walked m =
        let here : s.next (across s out d) ≡ suc d = walked.onward d l ∙ mod-eq_of_lt m in
        let inside : suc d < t.darts = omega (arith, carries.darts) in
        let there : t.next (across t t_out d) ≡ suc d = t_walked.onward d (omega arith) ∙ mod-eq_of_lt inside in
        ap rename (sym here) ∙ carries.next (across s out d) across_below ∙ ap t.next (sym across_agrees) ∙ there

  fixed_up_to : IsWalkedInOrder s out → IsWalkedInOrder t t_out → (d : ℕ) → d < s.darts → (k : ℕ) → k ≤ d → rename k ≡ k
  fixed_up_to walked t_walked zero l k le =
      let none : k ≡ 0 = omega arith in
      ap rename (none ∙ sym walked.root) ∙ carries.root (omega arith) ∙ t_walked.root ∙ sym none
  fixed_up_to walked t_walked (suc d) l k le = elim (cases_eq k (suc d)) [
    | inl e ↦ ap rename e ∙ next_fixed d (omega arith) (fixed_up_to walked t_walked d (omega arith)) walked t_walked l ∙ sym e
    | inr ne ↦ fixed_up_to walked t_walked d (omega arith) k (omega arith)
  ]

pub walked_is_one : WalkHasOneNumbering
walked_is_one s t out t_out rename structure carries walked t_walked same d l =
    fixed_up_to s t out t_out rename structure carries same walked t_walked d l d (omega arith)
