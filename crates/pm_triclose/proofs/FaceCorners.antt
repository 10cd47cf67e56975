-- How the faces of the closure of a whole tree go on, by the heights of the walk: three darts for each stem.
use Rattle.std.proofs.Common.{◌≡◌, ◌≢◌, ◌⊎◌, ℕ, zero, suc, ◌+◌, ◌-◌, ◌%◌, ◌<◌, ◌≤◌, inl, inr, List, length, slice_index, refl, ap, ◌∙◌, sym, subst, arith}
use Rattle.std.proofs.lemmas.Bool.{cases_eq, cases_lt}
use Rattle.pm_brackets.proofs.RingPlaces.{mod_stays}
use Rattle.pm_tri.specs.declared.letters.TheConstants.{STEM}
use Rattle.pm_tri.specs.Whole.{IsAhead}
use Rattle.pm_tri.proofs.SideCounts.{IsSideAt, down, up}
use Rattle.pm_triclose.specs.Closure.{Dart, IsBehind, at_place, next_twin, no_more, twin_of}
use Rattle.pm_triclose.proofs.AheadOrder.{IsStemRing, ahead_held, ahead_later, ahead_rises, no_stem_ahead, step, turn, within_ahead}
use Rattle.pm_triclose.proofs.AheadStems.{one_ahead}
use Rattle.pm_triclose.proofs.DartKeys.{IsNext, at_bracket, at_stem, stem_pair, stem_within}
use Rattle.pm_triclose.proofs.OpenStems.{not_before, stem_here}

-- the side of a place: that at which its stem closes, or itself
pub data IsCorner (places : List ℕ) (p e : ℕ) : Type 0 where
  of_ahead : IsAhead places p e → IsCorner places p e
  of_side : slice_index places p ≢ STEM → IsSideAt places p → p < length places → e ≡ p → IsCorner places p e

module _ (places : List ℕ) (across ends : ℕ → ℕ) (w : IsStemRing places across ends) where
  pub corner_at : (p : ℕ) → p < length places → (e : ℕ) × IsCorner places p e
  corner_at p l = elim (cases_eq (slice_index places p) STEM) [
    | inl stem ↦ (ends p, of_ahead (w.closes p stem))
    | inr ne ↦ elim (step places across ends w p l) [
      | inl side ↦ (p, of_side ne side l refl)
      | inr stem ↦ absurd (ne (sym (turn places across ends w p l) ∙ stem.stem))
    ]
  ]

  pub corner_rises : (p e : ℕ) → IsCorner places p e → up places (suc e) + down places p ≡ up places p + down places (suc e) + 1
  corner_rises p e (of_ahead a) = ahead_rises places across ends w p e a
  corner_rises p e (of_side ne side l is) = let u = ap (λ (k : ℕ). up places (suc k)) is in let d = ap (λ (k : ℕ). down places (suc k)) is in omega (arith, u, d, side.more, side.same)

  pub corner_after : (p e : ℕ) → IsCorner places p e → p ≤ e
  corner_after p e (of_ahead a) = let l = ahead_later places across ends w p e a in omega (arith, l)
  corner_after p e (of_side ne side l is) = omega (arith, is)

  -- within the side of a stem before
  pub corner_inside : (z q p e : ℕ) → IsAhead places z q → IsCorner places p e → z < p → p ≤ q → e ≤ q
  corner_inside z q p e a (of_side ne side l is) after before = omega (arith, is, before)
  corner_inside z q p e a (of_ahead b) after before = elim (cases_eq p q) [
    | inl here ↦ absurd (no_stem_ahead places across ends w z q a (sym (ap (slice_index places) here) ∙ b.stem))
    | inr ne ↦ within_ahead places across ends w z q p e a b after (omega (arith, ne, before))
  ]

  -- and at that side where the place is as high as the stem
  pub corner_meets : (z q p e : ℕ) → IsAhead places z q → IsCorner places p e → z < p → p ≤ q → up places p + down places z ≡ up places z + down places p → e ≡ q
  corner_meets z q p e a c after before level =
      let inside = corner_inside z q p e a c after before in
      let later = corner_after p e c in
      let rises = corner_rises p e c in
      elim (cases_eq e q) [
        | inl same ↦ same
        | inr ne ↦ absurd (not_before places z e q a (omega (arith, after, later)) (omega (arith, inside, ne)) (omega (arith, rises, level)))
      ]

  -- the face goes on from a place to what is behind it at its side
  pub corner_next : (p e : ℕ) (y : Dart) → IsCorner places p e → IsBehind (λ (z : ℕ). IsAhead places z e) (at_place (suc e % length places)) p y → IsNext places across ends w (stem_pair places (at_place p)) y
  corner_next p e y (of_ahead a) f =
      let l = stem_within places across ends w p a.stem in
      let bound : p ≡ length places - (length places - p) = omega (arith, l) in
      let same = one_ahead places p e (ends p) a (w.closes p a.stem) in
      subst (λ (x : Dart). IsNext places across ends w x y) (sym (at_stem places p a.stem))
      (subst (λ (k : ℕ). IsBehind (λ (z : ℕ). IsAhead places z k) (at_place (suc k % length places)) (length places - (length places - p)) y) same
      (subst (λ (k : ℕ). IsBehind (λ (z : ℕ). IsAhead places z e) (at_place (suc e % length places)) k y) bound f))
  corner_next p e y (of_side ne side l is) f =
      subst (λ (x : Dart). IsNext places across ends w x y) (sym (at_bracket places p ne))
      (subst (λ (k : ℕ). IsBehind (λ (z : ℕ). IsAhead places z k) (at_place (suc k % length places)) (length places - 0) y) is (wider f)) where
        wider : IsBehind (λ (z : ℕ). IsAhead places z e) (at_place (suc e % length places)) p y → IsBehind (λ (z : ℕ). IsAhead places z e) (at_place (suc e % length places)) (length places - 0) y
        wider (next_twin z m a none g) = next_twin z (omega (arith, m, l)) a (λ x k i b. let before = ahead_later places across ends w x e b in none x k (omega (arith, before, is)) b) g
        wider (no_more none g) = no_more (λ x i b. let before = ahead_later places across ends w x e b in none x (omega (arith, before, is)) b) g

  pub twin_next : (z : ℕ) → slice_index places z ≡ STEM → suc z < length places → IsNext places across ends w (at_place z) (at_place (suc z))
  twin_next z e l = no_more (λ x i a. no_stem_ahead places across ends w x z a e) (ap at_place (sym (mod_stays (suc z) (length places) l)))

  -- the three darts of a stem: its twin, the next place, and the place behind the side of that
  pub record IsTriangleOf (z second : ℕ) : Type 0 where
    pub within : second < length places
    pub after : suc z < second
    pub from_twin : IsNext places across ends w (at_place z) (at_place (suc z))
    pub from_first : IsNext places across ends w (stem_pair places (at_place (suc z))) (at_place second)
    pub from_second : IsNext places across ends w (stem_pair places (at_place second)) (twin_of z)

  -- the first of the two places has no stem behind it
  none_first : (z e y : ℕ) → slice_index places z ≡ STEM → IsCorner places (suc z) e → y < suc z → IsAhead places y e → ⊥
  none_first z e y stem c l a =
      let s = stem_here places z stem in
      let rises = corner_rises (suc z) e c in
      let other = ahead_rises places across ends w y e a in
      let later = corner_after (suc z) e c in
      elim (cases_eq y z) [
        | inl same ↦ let u = ap (up places) same in let d = ap (down places) same in omega (arith, u, d, rises, other, s.same, s.more)
        | inr ne ↦ let held = ahead_held places across ends w y e z a (omega (arith, l, ne)) (omega (arith, later)) in omega (arith, held, rises, other, s.same, s.more)
      ]

  -- and between the stem and the second no further stem closes at its side
  none_second : (z e q y : ℕ) → IsCorner places (suc z) e → e < q → z < y → y < suc e → IsAhead places y q → ⊥
  none_second z e q y (of_side ne side l is) before m k b =
      let same : y ≡ suc z = omega (arith, is, m, k) in
      ne (sym (ap (slice_index places) same) ∙ b.stem)
  none_second z e q y (of_ahead a) before m k b = elim (cases_eq y (suc z)) [
    | inl same ↦ let other = one_ahead places (suc z) e q a (subst (λ (i : ℕ). IsAhead places i q) same b) in omega (arith, other, before)
    | inr ne ↦ let inside = corner_inside (suc z) e y q a (of_ahead b) (omega (arith, m, ne)) (omega (arith, k)) in omega (arith, inside, before)
  ]

  pub triangle_of : (z : ℕ) → slice_index places z ≡ STEM → (second : ℕ) × IsTriangleOf z second
  triangle_of z stem =
      let a = w.closes z stem in
      let later = ahead_later places across ends w z (ends z) a in
      let inside = a.within in
      let s = stem_here places z stem in
      let first = corner_at (suc z) (omega (arith, later, inside)) in
      let c = first.1 in
      let rises = corner_rises (suc z) first.0 c in
      let reach = corner_inside z (ends z) (suc z) first.0 a c (omega arith) (omega (arith, later)) in
      let top = ahead_rises places across ends w z (ends z) a in
      let apart : first.0 ≢ ends z = λ f. let u = ap (λ (k : ℕ). up places (suc k)) f in let d = ap (λ (k : ℕ). down places (suc k)) f in omega (arith, u, d, rises, top, s.same, s.more) in
      let before : first.0 < ends z = omega (arith, reach, apart) in
      let past = corner_after (suc z) first.0 c in
      let second = corner_at (suc first.0) (omega (arith, before, inside)) in
      let meets = corner_meets z (ends z) (suc first.0) second.0 a second.1 (omega (arith, past)) (omega (arith, before)) (omega (arith, rises, s.same, s.more)) in (
        suc first.0,
        record {
          within = omega (arith, before, inside);
          after = omega (arith, past);
          from_twin = twin_next z stem (omega (arith, later, inside));
          from_first = corner_next (suc z) first.0 (at_place (suc first.0)) c
              (no_more (λ y l b. none_first z first.0 y stem c l b) (ap at_place (sym (mod_stays (suc first.0) (length places) (omega (arith, before, inside))))));
          from_second = corner_next (suc first.0) second.0 (twin_of z) second.1
              (next_twin z (omega (arith, past)) (subst (IsAhead places z) (sym meets) a)
              (λ y m k b. none_second z first.0 (ends z) y c before m k (subst (IsAhead places y) meets b)) refl);
        },
      )

  -- the nearest stem before a place that is as high; else the place is higher than the first
  pub record IsLevelStem (p z : ℕ) : Type 0 where
    pub stem : slice_index places z ≡ STEM
    pub before : z < p
    pub level : up places p + down places z ≡ up places z + down places p
    pub lower : (y : ℕ) → z < y → y < p → up places y + down places p < up places p + down places y

  pub level_stem : (p k : ℕ) → p < length places → k < p → ((y : ℕ) → k ≤ y → y < p → up places y + down places p < up places p + down places y)
      → ((z : ℕ) × IsLevelStem p z) ⊎ (up places 0 + down places p < up places p + down places 0)
  level_stem p zero within l lower = inr (lower 0 (omega arith) l)
  level_stem p (suc k) within l lower = elim (cases_lt (up places k + down places p) (up places p + down places k)) [
    | inl low ↦ level_stem p k within (omega (arith, l)) (λ y m i. elim (cases_eq y k) [
      | inl same ↦ let u = ap (up places) same in let d = ap (down places) same in omega (arith, u, d, low)
      | inr ne ↦ lower y (omega (arith, m, ne)) i
    ])
    | inr high ↦
        let next = lower (suc k) (omega arith) l in
        elim (step places across ends w k (omega (arith, l, within))) [
          | inl side ↦ absurd (omega (arith, side.more, side.same, next, high))
          | inr s ↦ inl (
            k,
            record {
              stem = sym (turn places across ends w k (omega (arith, l, within))) ∙ s.stem;
              before = omega (arith, l);
              level = omega (arith, s.more, s.same, next, high);
              lower = λ y m i. lower y (omega (arith, m)) i;
            },
          )
        ]
  ]

  -- the face goes on from the place to the twin of that stem
  pub level_next : (p z : ℕ) → p < length places → IsLevelStem p z → IsNext places across ends w (stem_pair places (at_place p)) (twin_of z)
  level_next p z within h =
      let a = w.closes z h.stem in
      let later = ahead_later places across ends w z (ends z) a in
      let top = ahead_rises places across ends w z (ends z) a in
      let before = h.before in
      let level = h.level in
      let reach : p ≤ ends z = elim (cases_lt (ends z) p) [
        | inr fine ↦ fine
        | inl short ↦ elim (cases_eq (suc (ends z)) p) [
          | inl here ↦ let u = ap (up places) here in let d = ap (down places) here in absurd (omega (arith, u, d, top, level))
          | inr ne ↦ let low = h.lower (suc (ends z)) (omega (arith, later)) (omega (arith, short, ne)) in absurd (omega (arith, low, top, level))
        ]
      ] in
      let c = corner_at p within in
      let rises = corner_rises p c.0 c.1 in
      let meets = corner_meets z (ends z) p c.0 a c.1 before reach level in
      corner_next p c.0 (twin_of z) c.1 (next_twin z before (subst (IsAhead places z) (sym meets) a)
      (λ y m i b. let low = h.lower y m i in let other = ahead_rises places across ends w y c.0 b in omega (arith, low, other, rises)) refl)
