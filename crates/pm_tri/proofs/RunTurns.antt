-- The stems that start runs turn along when a tree is planted at another stem, since a letter is a stem exactly where it was one.
use Rattle.std.proofs.Common.{◌≡◌, ◌↔◌, ℕ, zero, suc, ◌+◌, ◌-◌, ◌%◌, ◌<◌, inl, inr, List, length, slice_index, ap, ◌∙◌, sym, subst, arith}
use Rattle.std.proofs.Math.Nat.{add-mod-mod, mod-add-mod}
use Rattle.pm_brackets.specs.Ring.{IsTurned, place_from}
use Rattle.pm_brackets.specs.Word.{IsBracketing, IsOther}
use Rattle.pm_brackets.proofs.LetterTurns.{letter_within}
use Rattle.pm_brackets.proofs.Bracketed.{bracketing_exists}
use Rattle.pm_brackets.proofs.RingPlaces.{letter_back, mod_stays, mod_under}
use Rattle.pm_tri.specs.declared.letters.TheConstants.{STEM}
use Rattle.pm_tri.specs.RunLaws.{RunStartBalances, RunStartsAreTurned}
use Rattle.pm_tri.specs.Runs.{IsRunStart}
use Rattle.pm_tri.specs.Sides.{letter}
use Rattle.pm_tri.specs.StemTree.{contour}
use Rattle.pm_tri.proofs.HighCorners.{IsHigh, high_turn}
use Rattle.pm_tri.proofs.Replants.{replanted_alike}
use Rattle.pm_tri.proofs.RunCorners.{IsDrop, start_corners}
use Rattle.pm_tri.proofs.SideCounts.{IsFalling, down, down_none, tree_falls, up, up_none}
use Rattle.pm_tri.proofs.StemLetters.{stem_is_other}

module _ (places other turned : List ℕ) (start : ℕ) (b : IsBracketing places other) (s : start < length places) (t : IsTurned places start turned) where
  old_place : (k : ℕ) → place_from places start (k % length turned) ≡ (start + k) % length places
  old_place k = ap (λ (n : ℕ). (start + k % n) % length places) t.as_long ∙ add-mod-mod start k (length places)

  turned_under : (k : ℕ) → k % length turned < length places
  turned_under k = let long = t.as_long in omega (arith, long, mod_under k (length turned) (omega arith))

  stem_there : (k : ℕ) → letter turned k ≡ STEM → letter places (start + k) ≡ STEM
  stem_there k e =
      ap (slice_index places) (sym (old_place k))
      ∙ sym (letter_back places other turned start (k % length turned) b (omega arith) t (turned_under k) (subst IsOther (sym e) stem_is_other))
      ∙ e

  stem_here : (k : ℕ) → letter places (start + k) ≡ STEM → letter turned k ≡ STEM
  stem_here k e =
      let old : slice_index places (place_from places start (k % length turned)) ≡ STEM = ap (slice_index places) (old_place k) ∙ e in
      t.letters (k % length turned) (turned_under k) (λ f. stem_is_other.not_open (sym old ∙ f)) (λ f. stem_is_other.not_close (sym old ∙ f)) ∙ old

  -- the walk along the turned ring is that along the old one, from the start on
  record IsWalkFrom (k : ℕ) : Type 0 where
    ups : up turned k + up places start ≡ up places (start + k)
    downs : down turned k + down places start ≡ down places (start + k)

  walk_from : IsFalling places → IsFalling turned → (k : ℕ) → IsWalkFrom k
  walk_from w v zero =
      let e : start + 0 ≡ start = omega arith in
      record { ups = omega (arith, up_none turned, ap (up places) e); downs = omega (arith, down_none turned, ap (down places) e) }
  walk_from w v (suc k) =
      let before = walk_from w v k in
      let e : start + suc k ≡ suc (start + k) = omega arith in
      let a = ap (up places) e in
      let d = ap (down places) e in
      elim (v.step k) [
        | inl x ↦ elim (w.step (start + k)) [
          | inl y ↦ record { ups = omega (arith, before.ups, a, x.more, y.more); downs = omega (arith, before.downs, d, x.same, y.same) }
          | inr y ↦ absurd (x.no_stem (stem_here k y.stem))
        ]
        | inr x ↦ elim (w.step (start + k)) [
          | inl y ↦ absurd (y.no_stem (stem_there k x.stem))
          | inr y ↦ record { ups = omega (arith, before.ups, a, x.same, y.same); downs = omega (arith, before.downs, d, x.more, y.more) }
        ]
      ]

  high_there : IsFalling places → IsFalling turned → (c : ℕ) → IsHigh turned c → IsHigh places (start + c)
  high_there w v c h = record {
    highest = λ k l.
        let e : start + (k - start) ≡ k = omega arith in
        let here = walk_from w v c in
        let there = walk_from w v (k - start) in
        omega (arith, ap (up places) e, ap (down places) e, here.ups, here.downs, there.ups, there.downs, h.highest (k - start) (omega arith));
  }

  high_here : IsFalling places → IsFalling turned → (c : ℕ) → IsHigh places (start + c) → IsHigh turned c
  high_here w v c h = record {
    highest = λ k l.
        let here = walk_from w v c in
        let there = walk_from w v k in
        omega (arith, here.ups, here.downs, there.ups, there.downs, h.highest (start + k) (omega arith));
  }

  next_there : (c : ℕ) → start + suc c ≡ suc (start + c)
  next_there c = omega arith

  drop_there : IsFalling places → IsFalling turned → (c : ℕ) → IsDrop turned c → IsDrop places (start + c)
  drop_there w v c d = record { here = high_there w v c d.here; next = subst (IsHigh places) (next_there c) (high_there w v (suc c) d.next) }

  drop_here : IsFalling places → IsFalling turned → (c : ℕ) → IsDrop places (start + c) → IsDrop turned c
  drop_here w v c d = record { here = high_here w v c d.here; next = high_here w v (suc c) (subst (IsHigh places) (sym (next_there c)) d.next) }

  -- a corner is met after so many steps from the turned place on, or from where they lead to
  alike : IsFalling places → (p c d : ℕ) → c % length places ≡ d % length places → IsHigh places c → IsHigh places d
  alike w p c d e h = (high_turn places w d).1 (subst (IsHigh places) e ((high_turn places w c).0 h))

  round : (p y : ℕ) → (start + (p + y)) % length places ≡ (place_from places start p + y) % length places
  round p y =
      let e : start + (p + y) ≡ start + p + y = omega arith in
      ap (λ (k : ℕ). k % length places) e ∙ sym (mod-add-mod (start + p) (length places) y)

  round_next : (p y : ℕ) → suc (start + (p + y)) % length places ≡ suc (place_from places start p + y) % length places
  round_next p y =
      let e : suc (start + (p + y)) ≡ start + (p + suc y) = omega arith in
      let f : place_from places start p + suc y ≡ suc (place_from places start p + y) = omega arith in
      ap (λ (k : ℕ). k % length places) e ∙ round p (suc y) ∙ ap (λ (k : ℕ). k % length places) f

  pub starts_turned : IsFalling places → IsFalling turned → (p : ℕ) → p < length places → (IsRunStart turned p ↔ IsRunStart places (place_from places start p))
  starts_turned w v p l =
      let long = t.as_long in
      let old = start_corners places w (place_from places start p) (mod_under (start + p) (length places) (omega arith)) in
      let new = start_corners turned v p (omega (arith, long)) in
      let y : length turned - 1 ≡ length places - 1 = omega (arith, long) in (
        λ h.
            let d = drop_there w v (p + (length places - 1)) (subst (λ (k : ℕ). IsDrop turned (p + k)) y (new.0 h)) in
            old.1 (record {
              here = alike w p (start + (p + (length places - 1))) (place_from places start p + (length places - 1)) (round p (length places - 1)) d.here;
              next = alike w p (suc (start + (p + (length places - 1)))) (suc (place_from places start p + (length places - 1))) (round_next p (length places - 1)) d.next;
            }),
        λ h.
            let d = old.0 h in
            new.1 (subst (λ (k : ℕ). IsDrop turned (p + k)) (sym y) (drop_here w v (p + (length places - 1)) (record {
              here = alike w p (place_from places start p + (length places - 1)) (start + (p + (length places - 1))) (sym (round p (length places - 1))) d.here;
              next = alike w p (suc (place_from places start p + (length places - 1))) (suc (start + (p + (length places - 1)))) (sym (round_next p (length places - 1))) d.next;
            }))),
      )

pub run_starts_turned : RunStartsAreTurned
run_starts_turned word stem replanted t r place l =
    let old = bracketing_exists STEM stem_is_other word t.in_order.matched in
    starts_turned (contour word) old.0 (contour replanted) r.start old.1 (letter_within STEM (omega arith) (contour word) stem r.start r.is_start) r.is_turned
    (tree_falls word t) (tree_falls replanted (replanted_alike word stem replanted t r).stem_tree) place l

pub run_start_balances : RunStartBalances
run_start_balances word stem replanted t r =
    let within = letter_within STEM (omega arith) (contour word) stem r.start r.is_start in
    let e : r.start + 0 ≡ r.start = omega arith in
    let home : place_from (contour word) r.start 0 ≡ r.start = ap (λ (k : ℕ). k % length (contour word)) e ∙ mod_stays r.start (length (contour word)) within in
    let both = run_starts_turned word stem replanted t r 0 (omega arith) in
    (λ h. subst (IsRunStart (contour word)) home (both.0 h), λ h. both.1 (subst (IsRunStart (contour word)) (sym home) h))
