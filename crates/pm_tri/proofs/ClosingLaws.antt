-- Where the stems of a stem tree close, and the runs of the others.
use Rattle.std.proofs.Common.{◌≡◌, ℕ, suc, ◌+◌, ◌-◌, ◌%◌, ◌<◌, ◌≤◌, inl, inr, List, length, slice_index, refl, ap, ◌∙◌, sym, subst, arith}
use Rattle.std.proofs.lemmas.Bool.{cases_eq, cases_lt, eq-eqb, ne_eqb}
use Rattle.std.proofs.Math.Nat.{add-mod_left, add-mod_right}
use Rattle.pm_brackets.specs.PlantedAt.{AreTwo}
use Rattle.pm_brackets.specs.declared.letters.TheConstants.{OPEN, CLOSE}
use Rattle.pm_brackets.proofs.RingPlaces.{mod_stays, mod_under}
use Rattle.pm_tri.specs.ClosingLaws.{ClosesAhead, ClosesAtSide, ClosesOnce, ClosesOrIsFree, ClosesWithin, IsInOneRun, IsInSomeRun}
use Rattle.pm_tri.specs.Runs.{IsBalanced, IsFreeStem, IsInRun, IsRunStart}
use Rattle.pm_tri.specs.Sides.{letter}
use Rattle.pm_tri.specs.StemTree.{contour}
use Rattle.pm_tri.proofs.HighCorners.{IsHigh, free_high, high_again, stem_within}
use Rattle.pm_tri.proofs.Meetings.{closes_ahead, closes_within, closing_meets, meeting_side, meets_or_free}
use Rattle.pm_tri.proofs.OneReason.{one_closing}
use Rattle.pm_tri.proofs.RunStarts.{two_runs}
use Rattle.pm_tri.proofs.SideCounts.{IsFalling, each_letter, tree_falls}

pub closes_or_free : ClosesOrIsFree
closes_or_free word p t e = meets_or_free (contour word) (tree_falls word t) p e

pub at_side : ClosesAtSide
at_side word p q t c =
    let w = tree_falls word t in
    let m = closing_meets (contour word) w p q c in
    let s = meeting_side (contour word) w p m.at m.meeting in
    let under : q < length (contour word) = let e = m.is in let l = mod_under m.at (length (contour word)) (omega arith) in omega (arith, e, l) in
    let same : letter (contour word) q ≡ letter (contour word) m.at = ap (slice_index (contour word)) (mod_stays q (length (contour word)) under ∙ sym m.is) in
    elim (each_letter word q t.in_order) [
      | inl b ↦ elim b [
        | inl e ↦ rw (eq-eqb (letter (contour word) q) OPEN e) refl
        | inr e ↦ rw (ne_eqb (letter (contour word) q) OPEN (λ f. omega (arith, e, f)), eq-eqb (letter (contour word) q) CLOSE e) refl
      ]
      | inr e ↦ absurd (s.no_stem (sym same ∙ e))
    ]

pub only_once : ClosesOnce
only_once word p q r t a b = one_closing (contour word) p q r a b

pub plant_high : (places : List ℕ) → IsFalling places → IsBalanced places → IsHigh places (length places)
plant_high places w b = let e : 0 + length places ≡ length places = omega arith in subst (IsHigh places) e (high_again places w 0 (free_high places w 0 b.is_before.is_free))

pub only_ahead : ClosesAhead
only_ahead word p q t b c = let w = tree_falls word t in (closes_ahead (contour word) w p q (plant_high (contour word) w b) c).after

pub only_within : ClosesWithin
only_within word p q inner t b c l m e = let w = tree_falls word t in closes_within (contour word) w p q inner (plant_high (contour word) w b) c l m e

module _ (places : List ℕ) (w : IsFalling places) where
  -- the run of a free stem: from the last start before it in the turn
  in_run : (start stem steps : ℕ) → IsRunStart places start → IsFreeStem places stem → steps < length places → (start + steps) % length places ≡ stem
      → ((k : ℕ) → k < steps → IsRunStart places ((suc start + k) % length places) → ⊥) → IsInRun places start stem
  in_run start stem steps s f l m n = record { starts = s; is_free = f; steps = steps; in_turn = l; meets = m; no_other = n }

  straight : (start stem : ℕ) → IsRunStart places start → IsFreeStem places stem → start ≤ stem → ((p : ℕ) → start < p → p ≤ stem → IsRunStart places p → ⊥) → IsInRun places start stem
  straight start stem s f l none =
      let inside = stem_within places w stem f.stem in
      let e : start + (stem - start) ≡ stem = omega arith in
      in_run start stem (stem - start) s f (omega arith) (ap (λ (k : ℕ). k % length places) e ∙ mod_stays stem (length places) inside)
      (λ k m r. none (suc start + k) (omega arith) (omega arith) (subst (IsRunStart places) (mod_stays (suc start + k) (length places) (omega arith)) r))

  pub some_run : (stem : ℕ) → AreTwo (IsRunStart places) → IsFreeStem places stem → (start : ℕ) × IsInRun places start stem
  some_run stem two f =
      let order = two.in_order in
      let inside = stem_within places w stem f.stem in
      let later_in = stem_within places w two.later two.later_is.is_before.is_free.stem in
      elim (cases_lt stem two.earlier) [
        | inr first ↦ elim (cases_lt stem two.later) [
          | inl between ↦ (two.earlier, straight two.earlier stem two.earlier_is f first (λ p l m r. elim (two.no_third p r) [ inl e ↦ omega (arith, e) | inr e ↦ omega (arith, e) ]))
          | inr second ↦ (two.later, straight two.later stem two.later_is f second (λ p l m r. elim (two.no_third p r) [ inl e ↦ omega (arith, e) | inr e ↦ omega (arith, e) ]))
        ]
        | inl before ↦
            let e : two.later + (stem + length places - two.later) ≡ stem + length places = omega arith in (
              two.later,
              in_run two.later stem (stem + length places - two.later) two.later_is f (omega arith)
                  (ap (λ (k : ℕ). k % length places) e ∙ add-mod_right stem (length places) ∙ mod_stays stem (length places) inside)
                  (λ k l r. elim (cases_lt (suc two.later + k) (length places)) [
                    | inl near ↦
                        let same = mod_stays (suc two.later + k) (length places) near in
                        elim (two.no_third _ r) [ inl g ↦ omega (arith, same, g) | inr g ↦ omega (arith, same, g) ]
                    | inr far ↦
                        let h : suc two.later + k ≡ length places + (suc two.later + k - length places) = omega arith in
                        let same : (suc two.later + k) % length places ≡ suc two.later + k - length places =
                        ap (λ (j : ℕ). j % length places) h ∙ add-mod_left (length places) (suc two.later + k - length places) ∙ mod_stays (suc two.later + k - length places) (length places) (omega arith) in
                        elim (two.no_third _ r) [ inl g ↦ omega (arith, same, g) | inr g ↦ omega (arith, same, g) ]
                  ]),
            )
      ]

  -- a place by the steps that lead to it
  data IsRound (p q : ℕ) : Type 0 where
    near : p ≡ q → IsRound p q
    far : p ≡ q + length places → IsRound p q

  round : (p q : ℕ) → p < length places + length places → p % length places ≡ q → IsRound p q
  round p q l e = elim (cases_lt p (length places)) [
    | inl low ↦ near (sym (mod_stays p (length places) low) ∙ e)
    | inr high ↦
        let h : p ≡ length places + (p - length places) = omega arith in
        let same : p % length places ≡ p - length places = ap (λ (j : ℕ). j % length places) h ∙ add-mod_left (length places) (p - length places) ∙ mod_stays (p - length places) (length places) (omega arith) in
        far (omega (arith, same, e))
  ]

  not_shorter : (start other stem : ℕ) → (a : IsInRun places start stem) → (b : IsInRun places other stem) → b.steps < a.steps → ⊥
  not_shorter start other stem a b less =
      let start_in = stem_within places w start a.starts.is_before.is_free.stem in
      let other_in = stem_within places w other b.starts.is_before.is_free.stem in
      let a_few = a.in_turn in
      let b_few = b.in_turn in
      a.no_other (a.steps - suc b.steps) (omega arith) (subst (IsRunStart places) (sym (there (suc start + (a.steps - suc b.steps)) other other_in
      (between start other stem a.steps b.steps less start_in other_in (round (start + a.steps) stem (omega arith) a.meets) (round (other + b.steps) stem (omega arith) b.meets)))) b.starts) where
        there : (p q : ℕ) → q < length places → IsRound p q → p % length places ≡ q
        there p q l (near e) = ap (λ (k : ℕ). k % length places) e ∙ mod_stays q (length places) l
        there p q l (far e) = ap (λ (k : ℕ). k % length places) e ∙ add-mod_right q (length places) ∙ mod_stays q (length places) l

        between : (s o f x y : ℕ) → y < x → s < length places → o < length places → IsRound (s + x) f → IsRound (o + y) f → IsRound (suc s + (x - suc y)) o
        between s o f x y l m n (near e) (near g) = near (omega arith)
        between s o f x y l m n (near e) (far g) = absurd (omega arith)
        between s o f x y l m n (far e) (near g) = far (omega arith)
        between s o f x y l m n (far e) (far g) = near (omega arith)

  pub one_run : (start other stem : ℕ) → IsInRun places start stem → IsInRun places other stem → start ≡ other
  one_run start other stem a b =
      let start_in = stem_within places w start a.starts.is_before.is_free.stem in
      let other_in = stem_within places w other b.starts.is_before.is_free.stem in
      let a_few = a.in_turn in
      let b_few = b.in_turn in
      elim (cases_lt a.steps b.steps) [
        | inl less ↦ absurd (not_shorter other start stem b a less)
        | inr more ↦ elim (cases_eq a.steps b.steps) [
          | inr ne ↦ absurd (not_shorter start other stem a b (omega arith))
          | inl e ↦ alike start other stem a.steps b.steps e start_in other_in (round (start + a.steps) stem (omega arith) a.meets) (round (other + b.steps) stem (omega arith) b.meets)
        ]
      ] where
        alike : (s o f x y : ℕ) → x ≡ y → s < length places → o < length places → IsRound (s + x) f → IsRound (o + y) f → s ≡ o
        alike s o f x y e m n (near a) (near b) = omega arith
        alike s o f x y e m n (near a) (far b) = absurd (omega arith)
        alike s o f x y e m n (far a) (near b) = absurd (omega arith)
        alike s o f x y e m n (far a) (far b) = omega arith

pub in_some_run : IsInSomeRun
in_some_run word stem t f = some_run (contour word) (tree_falls word t) stem (two_runs word t) f

pub in_one_run : IsInOneRun
in_one_run word start other stem t a b = one_run (contour word) (tree_falls word t) start other stem a b
