-- A stem starts a run exactly where two high corners in a row lead to it: the last corners of their heights.
use Rattle.std.proofs.Common.{◌≡◌, ◌↔◌, ℕ, suc, ◌+◌, ◌-◌, ◌%◌, ◌<◌, ◌≤◌, inl, inr, List, length, refl, ap, ◌∙◌, sym, subst, arith}
use Rattle.std.proofs.lemmas.Bool.{cases_eq, cases_lt}
use Rattle.std.proofs.Math.Nat.{add-mod_right}
use Rattle.pm_brackets.proofs.RingPlaces.{mod_stays, mod_under}
use Rattle.pm_tri.specs.Runs.{IsFreeStem, IsRunStart}
use Rattle.pm_tri.proofs.SideCounts.{IsFalling, down, down_stretch, up, up_stretch}
use Rattle.pm_tri.proofs.HighCorners.{IsHigh, free_high, high_again, high_before, high_free, high_stem, high_turn, stem_within}

-- a corner that is high, as the next one is
pub record IsDrop (places : List ℕ) (c : ℕ) : Type 0 where
  pub here : IsHigh places c
  pub next : IsHigh places (suc c)

-- such a corner before a place
pub record IsDropBefore (places : List ℕ) (p : ℕ) : Type 0 where
  pub corner : ℕ
  pub within : corner < length places
  pub is : suc corner % length places ≡ p
  pub drop : IsDrop places corner

module _ (places : List ℕ) (w : IsFalling places) where
  -- behind a high corner, one of the same height is high
  high_level : (f k : ℕ) → IsHigh places f → f ≤ k → up places k + down places f ≡ up places f + down places k → IsHigh places k
  high_level f k h l e = record { highest = λ j m. omega (arith, e, h.highest j (omega arith)) }

  -- the stem of a high corner, by its place in the turn
  pub free_at : (k : ℕ) → IsHigh places k → IsFreeStem places (k % length places)
  free_at k h =
      let some = w.some in
      high_free places w (k % length places) (mod_under k (length places) (omega arith)) ((high_turn places w k).0 h)

  -- where no free stem stands between, and the walk falls by one, the next place follows at once
  none_apart : (f a : ℕ) → IsHigh places f → IsHigh places (suc f + a) → up places (suc f + a) + down places (suc f) ≡ up places (suc f) + down places (suc f + a)
      → ((k : ℕ) → k < a → IsFreeStem places ((suc f + k) % length places) → ⊥) → a ≡ 0
  none_apart f a h n level none = elim (cases_eq a 0) [
    | inl e ↦ e
    | inr some ↦
        let s = high_stem places w f h in
        let start : suc f + 0 ≡ suc f = omega arith in
        absurd (none 0 (omega arith) (free_at (suc f + 0) (subst (IsHigh places) (sym start) (record {
          highest = λ k l. elim (cases_lt k (suc f + a)) [
            | inr far ↦ omega (arith, n.highest k far, level)
            | inl near ↦
                let at : suc f + (k - suc f) ≡ k = omega arith in
                elim (cases_eq (up places k + down places f) (up places f + down places k)) [
                  | inl e ↦ absurd (none (k - suc f) (omega arith) (free_at (suc f + (k - suc f)) (subst (IsHigh places) (sym at) (high_level f k h (omega arith) e))))
                  | inr ne ↦ omega (arith, h.highest k (omega arith), ne, s.same, s.more)
                ]
          ];
        }))))
  ]

  pub start_drops : (p : ℕ) → IsRunStart places p → IsDropBefore places p
  start_drops p r =
      let b = r.is_before in
      let high = free_high places w r.before b.before_is in
      let next : IsHigh places (suc r.before + r.apart) = (high_turn places w (suc r.before + r.apart)).1 (subst (IsHigh places) (sym b.meets) (free_high places w p b.is_free)) in
      let none = none_apart r.before r.apart high next (omega (arith, r.level, up_stretch places (suc r.before) r.apart, down_stretch places (suc r.before) r.apart)) b.none_between in
      let e : suc r.before + r.apart ≡ suc r.before = omega arith in
      record {
        corner = r.before;
        within = stem_within places w r.before b.before_is.stem;
        is = ap (λ (k : ℕ). k % length places) (sym e) ∙ b.meets;
        drop = record { here = high; next = subst (IsHigh places) e next };
      }

  pub drop_starts : (p : ℕ) → IsDropBefore places p → IsRunStart places p
  drop_starts p d =
      let some = w.some in
      let e : suc d.corner + 0 ≡ suc d.corner = omega arith in
      record {
        before = d.corner;
        apart = 0;
        is_before = record {
          is_free = subst (IsFreeStem places) d.is (free_at (suc d.corner) d.drop.next);
          before_is = high_free places w d.corner d.within d.drop.here;
          in_turn = omega arith;
          meets = ap (λ (k : ℕ). k % length places) e ∙ d.is;
          none_between = λ k l. absurd (omega arith);
        };
        level = refl;
      }

  -- the corner before a place, one turn further, so that it is no matter which place is first
  pub start_corners : (p : ℕ) → p < length places → (IsRunStart places p ↔ IsDrop places (p + (length places - 1)))
  start_corners p l = (λ r. from_start (start_drops p r), λ d. drop_starts p (to_start d)) where
    from_start : IsDropBefore places p → IsDrop places (p + (length places - 1))
    from_start d = let some = w.some in let inside = d.within in elim (cases_lt (suc d.corner) (length places)) [
      | inl first ↦
          let e : d.corner + length places ≡ p + (length places - 1) = omega (arith, sym (mod_stays (suc d.corner) (length places) first) ∙ d.is) in
          let f : suc d.corner + length places ≡ suc (p + (length places - 1)) = omega (arith, e) in
          record { here = subst (IsHigh places) e (high_again places w d.corner d.drop.here); next = subst (IsHigh places) f (high_again places w (suc d.corner) d.drop.next) }
      | inr last ↦
          let whole : suc d.corner ≡ 0 + length places = omega arith in
          let zero' : p ≡ 0 = sym d.is ∙ ap (λ (k : ℕ). k % length places) whole ∙ add-mod_right 0 (length places) ∙ mod_stays 0 (length places) (omega arith) in
          let e : d.corner ≡ p + (length places - 1) = omega arith in
          record { here = subst (IsHigh places) e d.drop.here; next = subst (λ (k : ℕ). IsHigh places (suc k)) e d.drop.next }
    ]

    to_start : IsDrop places (p + (length places - 1)) → IsDropBefore places p
    to_start d = let some = w.some in elim (cases_eq p 0) [
      | inl zero' ↦
          let e : p + (length places - 1) ≡ length places - 1 = omega arith in
          let whole : suc (length places - 1) ≡ 0 + length places = omega arith in
          record {
            corner = length places - 1;
            within = omega arith;
            is = ap (λ (k : ℕ). k % length places) whole ∙ add-mod_right 0 (length places) ∙ mod_stays 0 (length places) (omega arith) ∙ sym zero';
            drop = subst (IsDrop places) e d;
          }
      | inr later ↦
          let e : p + (length places - 1) ≡ (p - 1) + length places = omega arith in
          let f : suc (p + (length places - 1)) ≡ suc (p - 1) + length places = omega arith in
          let g : suc (p - 1) ≡ p = omega arith in
          record {
            corner = p - 1;
            within = omega arith;
            is = ap (λ (k : ℕ). k % length places) g ∙ mod_stays p (length places) l;
            drop = record {
              here = high_before places w (p - 1) (subst (IsHigh places) e d.here);
              next = high_before places w (suc (p - 1)) (subst (IsHigh places) f d.next);
            };
          }
    ]
