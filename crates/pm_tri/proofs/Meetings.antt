-- Where stems close, by the heights of the walk: a stem closes at the first place behind it at which the walk rises above the stem's
-- corner. Stems between the two close before, or there too.
use Rattle.std.proofs.Common.{◌≡◌, ◌⊎◌, ℕ, zero, suc, ◌+◌, ◌-◌, ◌%◌, ◌<◌, ◌≤◌, inl, inr, List, length, slice_index, refl, ap, ◌∙◌, sym, subst, arith}
use Rattle.std.proofs.lemmas.Bool.{cases_lt}
use Rattle.pm_brackets.proofs.RingPlaces.{mod_stays}
use Rattle.pm_tri.specs.declared.letters.TheConstants.{STEM}
use Rattle.pm_tri.specs.Runs.{IsClosing, IsFreeStem}
use Rattle.pm_tri.specs.Sides.{sides}
use Rattle.pm_tri.proofs.HighCorners.{HasRisen, IsHeld, IsHigh, IsRisen, held, held_high, high_free, place_letter, risen, risen_or_held, stem_at, stem_within}
use Rattle.pm_tri.proofs.SideCounts.{IsFalling, IsSideAt, IsStemAt, down, down_stretch, up, up_stretch}

-- the walk rises above the corner of p at i, and at no place before; i may stand past the contour's end
pub record IsMeeting (places : List ℕ) (p i : ℕ) : Type 0 where
  pub after : p < i
  pub in_turn : i < p + length places
  pub rises : up places (suc i) + down places p ≡ up places p + down places (suc i) + 1
  pub held : (k : ℕ) → p < k → k ≤ i → up places k + down places p ≤ up places p + down places k

-- a meeting of a stem between two places, no later than the second
pub record IsMetBy (places : List ℕ) (p last : ℕ) : Type 0 where
  pub at : ℕ
  pub by : at ≤ last
  pub meeting : IsMeeting places p at

-- a closing as a meeting
pub record IsMetAt (places : List ℕ) (p q : ℕ) : Type 0 where
  pub at : ℕ
  pub is : at % length places ≡ q
  pub meeting : IsMeeting places p at

-- a first rise above a stem's corner, in sides and stems
pub rises_first : (places : List ℕ) (p i : ℕ) → IsStemAt places p → p < i → up places (suc i) + down places p ≡ up places p + down places (suc i) + 1
    → ((k : ℕ) → p < k → k ≤ i → up places k + down places p ≤ up places p + down places k) → IsRisen places p (i - p)
rises_first places p i s after rises low =
    let f : suc p + (i - p) ≡ suc i = omega arith in
    let u = ap (up places) f in
    let d = ap (down places) f in
    record {
      sum = omega (arith, u, d, up_stretch places (suc p) (i - p), down_stretch places (suc p) (i - p), rises, s.same, s.more);
      is_first = λ k l r. omega (arith, up_stretch places (suc p) k, down_stretch places (suc p) k, low (suc p + k) (omega arith) (omega arith), s.same, s.more, r);
    }

module _ (places : List ℕ) (w : IsFalling places) where
  -- up to its first rise the walk is held
  held_before : (p steps : ℕ) → IsStemAt places p → IsRisen places p steps → 0 < steps → IsHeld places p (steps - 1)
  held_before p steps s r some = found (risen_or_held places w p (steps - 1) s.stem) r where
    found : HasRisen places p (steps - 1) → IsRisen places p steps → IsHeld places p (steps - 1)
    found (held h) r = h
    found (risen early l e) r = absurd (r.is_first early (omega arith) e.sum)

  risen_some : (p steps : ℕ) → IsRisen places p steps → 0 < steps
  risen_some p zero r = absurd (let e = r.sum in let a : sides places (suc p) 0 ≡ 0 = refl in omega (arith, e, a))
  risen_some p (suc steps) r = omega arith

  pub risen_meets : (p steps : ℕ) → IsStemAt places p → steps < length places → IsRisen places p steps → IsMeeting places p (p + steps)
  risen_meets p steps s l r =
      let some = risen_some p steps r in
      let h = held_before p steps s r some in
      let e : suc p + steps ≡ suc (p + steps) = omega arith in
      let u = ap (up places) e in
      let d = ap (down places) e in
      record {
        after = omega arith;
        in_turn = omega arith;
        rises = omega (arith, u, d, up_stretch places (suc p) steps, down_stretch places (suc p) steps, r.sum, s.same, s.more);
        held = λ k m n.
            let f : suc p + (k - suc p) ≡ k = omega arith in
            let a = ap (up places) f in
            let b = ap (down places) f in
            omega (arith, a, b, up_stretch places (suc p) (k - suc p), down_stretch places (suc p) (k - suc p), h.held (k - suc p) (omega arith), s.same, s.more);
      }

  -- a stem closes where it meets
  pub closing_meets : (p q : ℕ) → IsClosing places p q → IsMetAt places p q
  closing_meets p q c =
      let s = stem_at places w p (place_letter places w p (stem_within places w p c.stem) ∙ c.stem) in
      record { at = p + c.steps; is = c.meets; meeting = risen_meets p c.steps s c.in_turn (record { sum = c.sum; is_first = c.is_first }) }

  pub meeting_closes : (p i : ℕ) → slice_index places p ≡ STEM → IsMeeting places p i → IsClosing places p (i % length places)
  meeting_closes p i e m =
      let s = stem_at places w p (place_letter places w p (stem_within places w p e) ∙ e) in
      let after = m.after in
      let in_turn = m.in_turn in
      let r = rises_first places p i s m.after m.rises m.held in
      let g : p + (i - p) ≡ i = omega arith in
      record { stem = e; steps = i - p; in_turn = omega arith; meets = ap (λ (k : ℕ). k % length places) g; sum = r.sum; is_first = r.is_first }

  -- a side stands there
  pub meeting_side : (p i : ℕ) → IsMeeting places p i → IsSideAt places i
  meeting_side p i m = elim (w.step i) [
    | inl s ↦ s
    | inr s ↦ absurd (omega (arith, m.held i m.after (omega arith), m.rises, s.same, s.more))
  ]

  -- a stem between closes by then
  pub met_between : (p i y : ℕ) → IsMeeting places p i → IsStemAt places y → p < y → y < i → IsMetBy places y i
  met_between p i y m s l n = found (risen_or_held places w y (i - y) s.stem) where
    found : HasRisen places y (i - y) → IsMetBy places y i
    found (held h) =
        let e : suc y + (i - y) ≡ suc i = omega arith in
        let u = ap (up places) e in
        let d = ap (down places) e in
        absurd (omega (arith, u, d, up_stretch places (suc y) (i - y), down_stretch places (suc y) (i - y), h.held (i - y) (omega arith), m.held y l (omega arith), m.rises, s.same, s.more))
    found (risen steps few r) =
        let in_turn = m.in_turn in
        record { at = y + steps; by = omega arith; meeting = risen_meets y steps s (omega arith) r }

  -- no stem before a high corner meets past it: so where the plant is free, stems close straight ahead
  pub meets_straight : (p i c : ℕ) → IsHigh places c → p < c → IsMeeting places p i → i < c
  meets_straight p i c h l m = elim (cases_lt i c) [
    | inl fine ↦ fine
    | inr past ↦ absurd (omega (arith, m.held c l past, h.highest (suc i) (omega arith), m.rises))
  ]

  -- a stem meets a place, or is free
  pub meets_or_free : (p : ℕ) → slice_index places p ≡ STEM → ((q : ℕ) × IsClosing places p q) ⊎ IsFreeStem places p
  meets_or_free p e =
      let inside = stem_within places w p e in
      let s = stem_at places w p (place_letter places w p inside ∙ e) in
      found inside s (risen_or_held places w p (length places - 1) s.stem) where
        found : p < length places → IsStemAt places p → HasRisen places p (length places - 1) → ((q : ℕ) × IsClosing places p q) ⊎ IsFreeStem places p
        found inside s (held h) = inr (high_free places w p inside (held_high places w p s h))
        found inside s (risen steps few r) =
            let some = w.some in
            inl ((p + steps) % length places, meeting_closes p (p + steps) (sym (place_letter places w p inside) ∙ s.stem) (risen_meets p steps s (omega arith) r))

  -- in a balanced tree a stem closes where it meets, ahead
  pub closes_ahead : (p q : ℕ) → IsHigh places (length places) → IsClosing places p q → IsMeeting places p q
  closes_ahead p q h c =
      let m = closing_meets p q c in
      let near = meets_straight p m.at (length places) h (stem_within places w p c.stem) m.meeting in
      subst (IsMeeting places p) (sym (mod_stays m.at (length places) near) ∙ m.is) m.meeting

  pub closes_within : (p q inner : ℕ) → IsHigh places (length places) → IsClosing places p q → p < inner → inner < q → slice_index places inner ≡ STEM → (r : ℕ) × (r ≤ q) × IsClosing places inner r
  closes_within p q inner h c l m e =
      let meeting = closes_ahead p q h c in
      let near = meets_straight p q (length places) h (stem_within places w p c.stem) meeting in
      let by = met_between p q inner meeting (stem_at places w inner (place_letter places w inner (omega arith) ∙ e)) l m in
      let early = by.by in
      let same : by.at % length places ≡ by.at = mod_stays by.at (length places) (omega arith) in
      (by.at, early, subst (IsClosing places inner) same (meeting_closes inner by.at e by.meeting))
