-- Corners of a stem tree's contour from which the walk never rises: at them, and nowhere else, stand the free stems.
use Rattle.std.proofs.Common.{◌≡◌, ◌↔◌, ℕ, zero, suc, ◌+◌, ◌-◌, ◌%◌, ◌<◌, ◌≤◌, inl, inr, List, length, slice_index, refl, ap, ◌∙◌, sym, subst, arith}
use Rattle.std.proofs.lemmas.Bool.{cases_eq, cases_lt}
use Rattle.std.proofs.Math.Nat.{add-mod_right}
use Rattle.pm_brackets.proofs.Levels.{inside}
use Rattle.pm_brackets.proofs.RingPlaces.{mod_stays}
use Rattle.pm_tri.specs.declared.letters.TheConstants.{STEM}
use Rattle.pm_tri.specs.Runs.{IsClosing, IsFreeStem}
use Rattle.pm_tri.specs.Sides.{letter, sides, stem_steps}
use Rattle.pm_tri.proofs.SideCounts.{IsFalling, IsStemAt, down, down_stretch, up, up_stretch}

-- no later corner is higher
pub record IsHigh (places : List ℕ) (c : ℕ) : Type 0 where
  pub highest : (k : ℕ) → c ≤ k → up places k + down places c ≤ up places c + down places k

-- the first of the corners behind a stem that is one higher than the stem's corner, after so many places
pub record IsRisen (places : List ℕ) (p steps : ℕ) : Type 0 where
  pub sum : sides places (suc p) steps ≡ stem_steps places (suc p) steps + 2
  pub is_first : (k : ℕ) → k < steps → sides places (suc p) k ≡ stem_steps places (suc p) k + 2 → ⊥

-- so many places behind a stem the walk has not risen above the stem's corner
pub record IsHeld (places : List ℕ) (p n : ℕ) : Type 0 where
  pub held : (k : ℕ) → k ≤ n → sides places (suc p) k ≤ stem_steps places (suc p) k + 1

pub data HasRisen (places : List ℕ) (p n : ℕ) : Type 0 where
  held : IsHeld places p n → HasRisen places p n
  risen : (steps : ℕ) → steps ≤ n → IsRisen places p steps → HasRisen places p n

module _ (places : List ℕ) (w : IsFalling places) where
  pub stem_at : (k : ℕ) → letter places k ≡ STEM → IsStemAt places k
  stem_at k e = elim (w.step k) [ inl a ↦ absurd (a.no_stem e) | inr a ↦ a ]

  pub stem_within : (p : ℕ) → slice_index places p ≡ STEM → p < length places
  stem_within p e = inside places p STEM (omega arith) e

  pub place_letter : (p : ℕ) → p < length places → letter places p ≡ slice_index places p
  place_letter p l = ap (slice_index places) (mod_stays p (length places) l)

  -- a stem stands at a high corner
  pub high_stem : (c : ℕ) → IsHigh places c → IsStemAt places c
  high_stem c h = elim (w.step c) [
    | inl a ↦ absurd (omega (arith, h.highest (suc c) (omega arith), a.more, a.same))
    | inr a ↦ a
  ]

  -- one turn further corners are high alike
  pub high_again : (c : ℕ) → IsHigh places c → IsHigh places (c + length places)
  high_again c h = record {
    highest = λ k l.
        let e : (k - length places) + length places ≡ k = omega arith in
        let a = ap (up places) e in
        let b = ap (down places) e in
        omega (arith, a, b, w.turn_up (k - length places), w.turn_down (k - length places), w.turn_up c, w.turn_down c, h.highest (k - length places) (omega arith));
  }

  pub high_before : (c : ℕ) → IsHigh places (c + length places) → IsHigh places c
  high_before c h = record {
    highest = λ k l.
        omega (arith, w.turn_up k, w.turn_down k, w.turn_up c, w.turn_down c, h.highest (k + length places) (omega arith));
  }

  high_first : (c : ℕ) → c < length places → (IsHigh places c ↔ IsHigh places (c % length places))
  high_first c l = (subst (IsHigh places) (sym (mod_stays c (length places) l)), subst (IsHigh places) (mod_stays c (length places) l))

  high_turned : (most c : ℕ) → c ≤ most → (IsHigh places c ↔ IsHigh places (c % length places))
  high_turned zero c l = let some = w.some in high_first c (omega arith)
  high_turned (suc most) c l = elim (cases_lt c (length places)) [
    | inl first ↦ high_first c first
    | inr later ↦
        let some = w.some in
        let e : (c - length places) + length places ≡ c = omega arith in
        let m : (c - length places) % length places ≡ c % length places = sym (add-mod_right (c - length places) (length places)) ∙ ap (λ (k : ℕ). k % length places) e in
        let both = high_turned most (c - length places) (omega arith) in
        (λ h. subst (IsHigh places) m (both.0 (high_before (c - length places) (subst (IsHigh places) (sym e) h))), λ h. subst (IsHigh places) e (high_again (c - length places) (both.1 (subst (IsHigh places) (sym m) h))))
  ]

  pub high_turn : (c : ℕ) → (IsHigh places c ↔ IsHigh places (c % length places))
  high_turn c = high_turned c c (omega arith)

  -- the walk behind a stem, so far: it has not risen, or it has, at a first place
  pub risen_or_held : (p n : ℕ) → letter places p ≡ STEM → HasRisen places p n
  risen_or_held p zero e = held (record {
    held = λ k l.
        let none : k ≡ 0 = omega arith in
        let a = ap (sides places (suc p)) none in
        let b : sides places (suc p) 0 ≡ 0 = refl in
        omega (arith, a, b);
  })
  risen_or_held p (suc n) e = more (risen_or_held p n e) where
    more : HasRisen places p n → HasRisen places p (suc n)
    more (risen steps l r) = risen steps (omega arith) r
    more (held h) =
        let u = up_stretch places (suc p) n in
        let d = down_stretch places (suc p) n in
        let e1 : suc p + suc n ≡ suc (suc p + n) = omega arith in
        let u1 = up_stretch places (suc p) (suc n) in
        let d1 = down_stretch places (suc p) (suc n) in
        let u2 = ap (up places) e1 in
        let d2 = ap (down places) e1 in
        let last = h.held n (omega arith) in
        elim (cases_eq (sides places (suc p) (suc n)) (stem_steps places (suc p) (suc n) + 2)) [
          | inl s ↦ risen (suc n) (omega arith) (record { sum = s; is_first = λ k l f. omega (arith, f, h.held k (omega arith)) })
          | inr ne ↦ held (record {
            held = λ k l. elim (cases_eq k (suc n)) [
              | inr other ↦ h.held k (omega arith)
              | inl same ↦
                  let a = ap (sides places (suc p)) same in
                  let b = ap (stem_steps places (suc p)) same in
                  let low : sides places (suc p) (suc n) ≤ stem_steps places (suc p) (suc n) + 1 = elim (w.step (suc p + n)) [
                    | inl s ↦ omega (arith, last, u, d, u1, d1, u2, d2, s.more, s.same)
                    | inr s ↦ omega (arith, last, u, d, u1, d1, u2, d2, s.more, s.same)
                  ] in
                  omega (arith, a, b, low)
            ];
          })
        ]

  -- a corner from which the walk does not rise within a turn is high
  turns_high : (c : ℕ) → ((k : ℕ) → c ≤ k → k ≤ c + length places → up places k + down places c ≤ up places c + down places k)
      → (most k : ℕ) → c ≤ k → k ≤ c + most → up places k + down places c ≤ up places c + down places k
  turns_high c h zero k l m = h k l (omega arith)
  turns_high c h (suc most) k l m = elim (cases_lt (c + length places) k) [
    | inr near ↦ h k l near
    | inl far ↦
        let some = w.some in
        let e : (k - length places) + length places ≡ k = omega arith in
        let a = ap (up places) e in
        let b = ap (down places) e in
        omega (arith, a, b, w.turn_up (k - length places), w.turn_down (k - length places), w.falls, turns_high c h most (k - length places) (omega arith) (omega arith))
  ]

  pub turn_high : (c : ℕ) → ((k : ℕ) → c ≤ k → k ≤ c + length places → up places k + down places c ≤ up places c + down places k) → IsHigh places c
  turn_high c h = record { highest = λ k l. turns_high c h k k l (omega arith) }

  high_near : (p : ℕ) → IsStemAt places p → IsHeld places p (length places - 1) → (k : ℕ) → p ≤ k → k ≤ p + length places → up places k + down places p ≤ up places p + down places k
  high_near p s h k l near = elim (cases_eq p k) [
    | inl e ↦ let a = ap (up places) e in let b = ap (down places) e in omega (arith, a, b)
    | inr ne ↦
        let some = w.some in
        let e : suc p + (k - suc p) ≡ k = omega arith in
        let a = ap (up places) e in
        let b = ap (down places) e in
        omega (arith, a, b, up_stretch places (suc p) (k - suc p), down_stretch places (suc p) (k - suc p), h.held (k - suc p) (omega arith), s.same, s.more)
  ]

  pub held_high : (p : ℕ) → IsStemAt places p → IsHeld places p (length places - 1) → IsHigh places p
  held_high p s h = turn_high p (high_near p s h)

  -- the corner behind the place at which a stem closes is one higher than the stem's
  pub closing_rises : (p q : ℕ) → (c : IsClosing places p q) → IsStemAt places p → up places (suc p + c.steps) + down places p ≡ up places p + down places (suc p + c.steps) + 1
  closing_rises p q c s = omega (arith, up_stretch places (suc p) c.steps, down_stretch places (suc p) c.steps, c.sum, s.same, s.more)

  pub high_free : (p : ℕ) → p < length places → IsHigh places p → IsFreeStem places p
  high_free p l h =
      let s = high_stem p h in
      record {
        stem = sym (place_letter p l) ∙ s.stem;
        open_ended = λ q c. omega (arith, closing_rises p q c s, h.highest (suc p + c.steps) (omega arith));
      }

  pub free_high : (p : ℕ) → IsFreeStem places p → IsHigh places p
  free_high p f =
      let l = stem_within p f.stem in
      let e : letter places p ≡ STEM = place_letter p l ∙ f.stem in
      found (risen_or_held p (length places - 1) e) l (stem_at p e) where
        found : HasRisen places p (length places - 1) → p < length places → IsStemAt places p → IsHigh places p
        found (held h) l s = held_high p s h
        found (risen steps m r) l s = absurd (f.open_ended ((p + steps) % length places) (record {
          stem = f.stem;
          steps = steps;
          in_turn = let some = w.some in omega arith;
          meets = refl;
          sum = r.sum;
          is_first = r.is_first;
        }))
