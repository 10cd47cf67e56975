-- Where the stems of the whole tree close: at a side of the tree, or at one of the two new sides.
use Rattle.std.proofs.Common.{◌≡◌, ℕ, suc, ◌<◌, inl, inr, List, slice_index, ap, ◌∙◌, sym, subst, arith}
use Rattle.std.proofs.lemmas.Bool.{cases_lt, cases_order}
use Rattle.pm_brackets.proofs.Levels.{inside}
use Rattle.pm_tri.specs.declared.letters.TheConstants.{STEM}
use Rattle.pm_tri.specs.Runs.{IsClosing, IsInRun}
use Rattle.pm_tri.specs.Whole.{IsAhead}
use Rattle.pm_triclose.proofs.WholeBrackets.{IsNew, at_first, at_fourth, at_second, at_third, is_new}
use Rattle.pm_triclose.proofs.WholeOf.{IsClosed, IsWholeOf, at_side, in_other, in_plants}

-- a stem closes ahead at one place
pub one_ahead : (places : List ℕ) (x q r : ℕ) → IsAhead places x q → IsAhead places x r → q ≡ r
one_ahead places x q r a b = elim (cases_order a.steps b.steps) [
  | inl e ↦ let i = a.is in let j = b.is in omega (arith, e, i, j)
  | inr apart ↦ elim apart [
    | inl l ↦ absurd (b.is_first a.steps l a.sum)
    | inr l ↦ absurd (a.is_first b.steps l b.sum)
  ]
]

-- where a stem of the whole tree closes, and what it is in the tree
pub data IsAheadIn (places : List ℕ) (last start x q : ℕ) : Type 0 where
  ahead_old : q < last → IsClosing places x q → IsAheadIn places last start x q
  ahead_a : q ≡ suc last → IsInRun places 0 x → IsAheadIn places last start x q
  ahead_b : q ≡ last → IsInRun places start x → IsAheadIn places last start x q

module _ (places all : List ℕ) (last start : ℕ) (w : IsWholeOf places all last start) where
  -- the new places have no stems
  pub new_letter : (p : ℕ) → IsNew last p → slice_index all p ≡ STEM → ⊥
  new_letter p (at_first e) h = let f = ap (slice_index all) e in let g = w.first in omega (arith, f, g, h)
  new_letter p (at_second e) h = let f = ap (slice_index all) e in let g = w.second in omega (arith, f, g, h)
  new_letter p (at_third e) h = let f = ap (slice_index all) e in let g = w.third in omega (arith, f, g, h)
  new_letter p (at_fourth e) h = let f = ap (slice_index all) e in let g = w.fourth in omega (arith, f, g, h)

  pub stem_old : (x : ℕ) → slice_index all x ≡ STEM → x < last
  stem_old x e =
      let wide = w.wide in
      let within = inside all x STEM (omega arith) e in
      elim (cases_lt x last) [ inl l ↦ l | inr new ↦ absurd (new_letter x (is_new last x new (omega (arith, wide, within))) e) ]

  pub old_stem : (x : ℕ) → slice_index all x ≡ STEM → slice_index places x ≡ STEM
  old_stem x e = sym (w.kept x (stem_old x e)) ∙ e

  pub stem_new : (x : ℕ) → x < last → slice_index places x ≡ STEM → slice_index all x ≡ STEM
  stem_new x l e = w.kept x l ∙ e

  pub ahead_in : (x q : ℕ) → IsAhead all x q → IsAheadIn places last start x q
  ahead_in x q a = found (w.each x (old_stem x a.stem)) where
    found : IsClosed places start x → IsAheadIn places last start x q
    found (at_side r c) =
        let e = one_ahead all x r q (w.closes_old x r c) a in
        let c' = subst (IsClosing places x) e c in
        ahead_old (w.old_side x q c') c'
    found (in_plants i) = ahead_a (one_ahead all x q (suc last) a (w.closes_a x i)) i
    found (in_other i) = ahead_b (one_ahead all x q last a (w.closes_b x i (stem_old x a.stem))) i

  -- at an old side the same stems close
  pub closing_of : (x q : ℕ) → q < last → IsAhead all x q → IsClosing places x q
  closing_of x q l a = found (ahead_in x q a) where
    found : IsAheadIn places last start x q → IsClosing places x q
    found (ahead_old m c) = c
    found (ahead_a e i) = absurd (omega (arith, e, l))
    found (ahead_b e i) = absurd (omega (arith, e, l))

  -- at the second new side those of the plant's run
  pub run_of_a : (x : ℕ) → IsAhead all x (suc last) → IsInRun places 0 x
  run_of_a x a = found (ahead_in x (suc last) a) where
    found : IsAheadIn places last start x (suc last) → IsInRun places 0 x
    found (ahead_old m c) = absurd (omega (arith, m))
    found (ahead_a e i) = i
    found (ahead_b e i) = absurd (omega (arith, e))

  -- at the first those of the other run
  pub run_of_b : (x : ℕ) → IsAhead all x last → IsInRun places start x
  run_of_b x a = found (ahead_in x last a) where
    found : IsAheadIn places last start x last → IsInRun places start x
    found (ahead_old m c) = absurd (omega (arith, m))
    found (ahead_a e i) = absurd (omega (arith, e))
    found (ahead_b e i) = i

  -- and at the two others none
  pub none_ahead : (x q : ℕ) → suc last < q → IsAhead all x q → ⊥
  none_ahead x q l a = found (ahead_in x q a) where
    found : IsAheadIn places last start x q → ⊥
    found (ahead_old m c) = omega (arith, m, l)
    found (ahead_a e i) = omega (arith, e, l)
    found (ahead_b e i) = omega (arith, e, l)
