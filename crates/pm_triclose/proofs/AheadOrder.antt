-- Stems that close ahead, by the heights of the walk: none closes at a stem, and the stems between one and its side close by then.
use Rattle.std.proofs.Common.{◌≡◌, ◌⊎◌, ℕ, zero, suc, ◌+◌, ◌-◌, ◌<◌, ◌≤◌, inl, inr, List, length, slice_index, refl, ap, ◌∙◌, arith}
use Rattle.std.proofs.lemmas.Bool.{cases_eq, cases_lt}
use Rattle.pm_brackets.specs.Ring.{AreBrackets}
use Rattle.pm_brackets.specs.declared.letters.TheConstants.{OPEN, CLOSE}
use Rattle.pm_brackets.proofs.RingPlaces.{mod_stays}
use Rattle.pm_tri.specs.declared.letters.TheConstants.{STEM}
use Rattle.pm_tri.specs.Sides.{letter, sides, stem_steps}
use Rattle.pm_tri.specs.Whole.{IsAhead}
use Rattle.pm_tri.proofs.SideCounts.{IsSideAt, IsStemAt, down, down_stretch, side_step, stem_step, up, up_stretch}

-- places of brackets and stems: each bracket has its other one, a stem itself, and each stem closes ahead at its end
pub record IsStemRing (places : List ℕ) (across ends : ℕ → ℕ) : Type 0 where
  pub some : 0 < length places
  pub letters : (p : ℕ) → p < length places → ((slice_index places p ≡ OPEN) ⊎ (slice_index places p ≡ CLOSE)) ⊎ (slice_index places p ≡ STEM)
  pub brackets : (p : ℕ) → (slice_index places p ≡ OPEN) ⊎ (slice_index places p ≡ CLOSE) → AreBrackets places p (across p)
  pub alone : (p : ℕ) → slice_index places p ≡ STEM → across p ≡ p
  pub closes : (x : ℕ) → slice_index places x ≡ STEM → IsAhead places x (ends x)

module _ (places : List ℕ) (across ends : ℕ → ℕ) (w : IsStemRing places across ends) where
  pub turn : (p : ℕ) → p < length places → letter places p ≡ slice_index places p
  turn p l = ap (slice_index places) (mod_stays p (length places) l)

  pub step : (p : ℕ) → p < length places → IsSideAt places p ⊎ IsStemAt places p
  step p l = elim (w.letters p l) [
    | inl side ↦ inl (side_step places p (elim side [ inl o ↦ inl (turn p l ∙ o) | inr c ↦ inr (turn p l ∙ c) ]))
    | inr stem ↦ inr (stem_step places p (turn p l ∙ stem))
  ]

  stem_at : (x q : ℕ) → IsAhead places x q → IsStemAt places x
  stem_at x q a = let i = a.is in let l = a.within in stem_step places x (turn x (omega (arith, i, l)) ∙ a.stem)

  -- up to its side the walk is held
  held_to : (x q : ℕ) (a : IsAhead places x q) (j : ℕ) → j < a.steps → sides places (suc x) j ≤ stem_steps places (suc x) j + 1
  held_to x q a zero l = let z : sides places (suc x) 0 ≡ 0 = refl in omega (arith, z)
  held_to x q a (suc j) l =
      let before = held_to x q a j (omega (arith, l)) in
      let i = a.is in
      let inside = a.within in
      let e : suc x + suc j ≡ suc (suc x + j) = omega arith in
      let u = ap (up places) e in
      let d = ap (down places) e in
      let u0 = up_stretch places (suc x) j in
      let d0 = down_stretch places (suc x) j in
      let u1 = up_stretch places (suc x) (suc j) in
      let d1 = down_stretch places (suc x) (suc j) in
      let most : sides places (suc x) (suc j) ≤ stem_steps places (suc x) (suc j) + 2 = elim (step (suc x + j) (omega (arith, i, inside, l))) [
        | inl s ↦ omega (arith, before, u, d, u0, d0, u1, d1, s.more, s.same)
        | inr s ↦ omega (arith, before, u, d, u0, d0, u1, d1, s.more, s.same)
      ] in
      elim (cases_eq (sides places (suc x) (suc j)) (stem_steps places (suc x) (suc j) + 2)) [
        | inl f ↦ absurd (a.is_first (suc j) l f)
        | inr ne ↦ omega (arith, most, ne)
      ]

  pub ahead_later : (x q : ℕ) → IsAhead places x q → x < q
  ahead_later x q a = later a.steps a.is a.sum where
    later : (steps : ℕ) → x + steps ≡ q → sides places (suc x) steps ≡ stem_steps places (suc x) steps + 2 → x < q
    later zero i e = let z : sides places (suc x) 0 ≡ 0 = refl in absurd (omega (arith, z, e))
    later (suc steps) i e = omega (arith, i)

  pub ahead_held : (x q k : ℕ) → IsAhead places x q → x < k → k ≤ q → up places k + down places x ≤ up places x + down places k
  ahead_held x q k a l m =
      let i = a.is in
      let s = stem_at x q a in
      let e : suc x + (k - suc x) ≡ k = omega (arith, l) in
      let h = held_to x q a (k - suc x) (omega (arith, i, l, m)) in
      omega (arith, h, ap (up places) e, ap (down places) e, up_stretch places (suc x) (k - suc x), down_stretch places (suc x) (k - suc x), s.same, s.more)

  pub ahead_rises : (x q : ℕ) → IsAhead places x q → up places (suc q) + down places x ≡ up places x + down places (suc q) + 1
  ahead_rises x q a =
      let i = a.is in
      let s = stem_at x q a in
      let e : suc x + a.steps ≡ suc q = omega (arith, i) in
      omega (arith, a.sum, ap (up places) e, ap (down places) e, up_stretch places (suc x) a.steps, down_stretch places (suc x) a.steps, s.same, s.more)

  pub no_stem_ahead : (x q : ℕ) → IsAhead places x q → slice_index places q ≡ STEM → ⊥
  no_stem_ahead x q a e =
      let s = stem_step places q (turn q a.within ∙ e) in
      omega (arith, ahead_rises x q a, ahead_held x q q a (ahead_later x q a) (omega arith), s.same, s.more)

  -- a stem between closes by then
  pub within_ahead : (x q y r : ℕ) → IsAhead places x q → IsAhead places y r → x < y → y < q → r ≤ q
  within_ahead x q y r a b l m = elim (cases_lt q r) [
    | inr fine ↦ fine
    | inl past ↦
        absurd (omega (arith, ahead_rises x q a, ahead_held x q y a l (omega (arith, m)), ahead_held y r (suc q) b (omega (arith, m)) past))
  ]
