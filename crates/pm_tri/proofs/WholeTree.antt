-- In the whole tree each stem closes ahead: where it did, or at one of the two new sides.
use Rattle.std.proofs.Common.{◌≡◌, ◌⊎◌, ℕ, zero, suc, ◌+◌, ◌-◌, ◌<◌, ◌≤◌, inl, inr, List, [], ◌∷◌, length, take, slice_index, refl, ap, ◌∙◌, sym, subst, arith, length-append}
use Rattle.std.proofs.lemmas.Bool.{cases_lt}
use Rattle.std.proofs.lemmas.List.{get_or-append_right, get_or-take, get_or_append_left, length-take-le}
use Rattle.pm_brackets.specs.declared.letters.TheConstants.{OPEN, CLOSE}
use Rattle.pm_brackets.proofs.RingPlaces.{mod_stays, mod_under}
use Rattle.pm_tri.specs.declared.letters.TheConstants.{STEM}
use Rattle.pm_tri.specs.Runs.{IsBalanced, IsClosing, IsInRun}
use Rattle.pm_tri.specs.Sides.{letter}
use Rattle.pm_tri.specs.StemTree.{IsStemTree, contour}
use Rattle.pm_tri.specs.Whole.{ClosesAlike, IsAhead, OtherRunCloses, PlantsRunCloses, whole}
use Rattle.pm_tri.proofs.ClosingLaws.{plant_high}
use Rattle.pm_tri.proofs.HighCorners.{free_high, high_stem, place_letter, stem_within}
use Rattle.pm_tri.proofs.Meetings.{closes_ahead, meeting_side, rises_first}
use Rattle.pm_tri.proofs.RunLevels.{end_level, last, other_level, plants_level}
use Rattle.pm_tri.proofs.RunStarts.{two_runs}
use Rattle.pm_tri.proofs.SideCounts.{IsFalling, IsSideAt, IsStemAt, down, down_none, each_letter, side_step, stem_step, tree_falls, up, up_none}

-- a rise above a stem's corner, as a closing ahead
meets_ahead : (places : List ℕ) (p q : ℕ) → slice_index places p ≡ STEM → IsStemAt places p → q < length places → p < q → up places (suc q) + down places p ≡ up places p + down places (suc q) + 1
    → ((k : ℕ) → p < k → k ≤ q → up places k + down places p ≤ up places p + down places k) → IsAhead places p q
meets_ahead places p q e s inside after rises held =
    let r = rises_first places p q s after rises held in
    record { stem = e; steps = q - p; is = omega arith; within = inside; sum = r.sum; is_first = r.is_first }

module _ (word : List ℕ) (t : IsStemTree word) (b : IsBalanced (contour word)) where
  pub w : IsFalling (contour word)
  w = tree_falls word t

  pub filled : 0 < length word
  filled = let some = w.some in omega arith

  pub long : length (contour (whole word)) ≡ length word + 4
  long =
      let some = filled in
      let a = length-append (take (length word - 1) word) (OPEN ∷ OPEN ∷ CLOSE ∷ CLOSE ∷ []) in
      let c : length (take (length word - 1) word) ≡ length word - 1 = length-take-le (length word - 1) word (omega arith) in
      let d : length (OPEN ∷ OPEN ∷ CLOSE ∷ CLOSE ∷ []) ≡ 4 = refl in
      omega (arith, a, c, d)

  -- the letters before the last one are kept
  pub letter_kept : (k : ℕ) → k < length word → slice_index (contour (whole word)) k ≡ slice_index (contour word) k
  letter_kept zero l = refl
  letter_kept (suc k) l =
      let c : length (take (length word - 1) word) ≡ length word - 1 = length-take-le (length word - 1) word (omega arith) in
      get_or_append_left (take (length word - 1) word) (OPEN ∷ OPEN ∷ CLOSE ∷ CLOSE ∷ []) 0 k (omega (arith, c)) ∙ get_or-take (length word - 1) word k 0 (omega arith)

  -- and then come new ones
  pub letter_new : (j : ℕ) → j < 4 → slice_index (contour (whole word)) (length word + j) ≡ slice_index (OPEN ∷ OPEN ∷ CLOSE ∷ CLOSE ∷ []) j
  letter_new j l =
      let some = filled in
      let c : length (take (length word - 1) word) ≡ length word - 1 = length-take-le (length word - 1) word (omega arith) in
      let e : length word + j ≡ suc ((length word - 1) + j) = omega arith in
      let back : (length word - 1) + j - (length word - 1) ≡ j = omega arith in
      ap (slice_index (contour (whole word))) e
      ∙ get_or-append_right (take (length word - 1) word) (OPEN ∷ OPEN ∷ CLOSE ∷ CLOSE ∷ []) (length word - 1) ((length word - 1) + j) 0 c (omega arith)
      ∙ ap (slice_index (OPEN ∷ OPEN ∷ CLOSE ∷ CLOSE ∷ [])) back

  turn_letter : (k : ℕ) → k < length word + 4 → letter (contour (whole word)) k ≡ slice_index (contour (whole word)) k
  turn_letter k l = ap (slice_index (contour (whole word))) (mod_stays k (length (contour (whole word))) (omega (arith, long)))

  same_letter : (k : ℕ) → k < length word → letter (contour (whole word)) k ≡ letter (contour word) k
  same_letter k l = turn_letter k (omega arith) ∙ letter_kept k l ∙ sym (place_letter (contour word) w k (omega arith))

  new_side : (j : ℕ) → j < 2 → IsSideAt (contour (whole word)) (length word + j)
  new_side j l = side_step (contour (whole word)) (length word + j) (inl (turn_letter (length word + j) (omega arith) ∙ letter_new j (omega arith) ∙ opens j l)) where
    opens : (j : ℕ) → j < 2 → slice_index (OPEN ∷ OPEN ∷ CLOSE ∷ CLOSE ∷ []) j ≡ OPEN
    opens zero l = refl
    opens (suc zero) l = refl
    opens (suc (suc j)) l = absurd (omega arith)

  -- the walk is the same as far as the last letter
  record IsSameTo (k : ℕ) : Type 0 where
    ups : up (contour (whole word)) k ≡ up (contour word) k
    downs : down (contour (whole word)) k ≡ down (contour word) k

  same_to : (k : ℕ) → k ≤ length word → IsSameTo k
  same_to zero l = record { ups = up_none (contour (whole word)) ∙ sym (up_none (contour word)); downs = down_none (contour (whole word)) ∙ sym (down_none (contour word)) }
  same_to (suc k) l =
      let before = same_to k (omega arith) in
      let e = same_letter k (omega arith) in
      elim (each_letter word k t.in_order) [
        | inl side ↦
            let a = side_step (contour word) k side in
            let c = side_step (contour (whole word)) k (carried k e side) in
            record { ups = omega (arith, before.ups, a.more, c.more); downs = omega (arith, before.downs, a.same, c.same) }
        | inr stem ↦
            let a = stem_step (contour word) k stem in
            let c = stem_step (contour (whole word)) k (e ∙ stem) in
            record { ups = omega (arith, before.ups, a.same, c.same); downs = omega (arith, before.downs, a.more, c.more) }
      ] where
        carried : (k : ℕ) → letter (contour (whole word)) k ≡ letter (contour word) k → (letter (contour word) k ≡ OPEN) ⊎ (letter (contour word) k ≡ CLOSE) → (letter (contour (whole word)) k ≡ OPEN) ⊎ (letter (contour (whole word)) k ≡ CLOSE)
        carried k e (inl o) = inl (e ∙ o)
        carried k e (inr c) = inr (e ∙ c)

  end : down (contour word) (length word) ≡ up (contour word) (length word) + 1
  end = let e : length (contour word) - 1 ≡ length word = omega arith in subst (λ (k : ℕ). down (contour word) k ≡ up (contour word) k + 1) e (end_level (contour word) w b)

  -- the heights behind the two new sides
  first_new : down (contour (whole word)) (suc (length word)) ≡ up (contour (whole word)) (suc (length word))
  first_new =
      let e : length word + 0 ≡ length word = omega arith in
      let s = subst (IsSideAt (contour (whole word))) e (new_side 0 (omega arith)) in
      let here = same_to (length word) (omega arith) in
      omega (arith, s.more, s.same, here.ups, here.downs, end)

  second_new : up (contour (whole word)) (suc (suc (length word))) ≡ down (contour (whole word)) (suc (suc (length word))) + 1
  second_new =
      let e : length word + 1 ≡ suc (length word) = omega arith in
      let s = subst (IsSideAt (contour (whole word))) e (new_side 1 (omega arith)) in
      omega (arith, s.more, s.same, first_new)

  stem_still : (p : ℕ) → p < length word → slice_index (contour word) p ≡ STEM → IsStemAt (contour (whole word)) p
  stem_still p l e = stem_step (contour (whole word)) p (turn_letter p (omega arith) ∙ letter_kept p l ∙ e)

  pub alike : (p q : ℕ) → IsClosing (contour word) p q → IsAhead (contour (whole word)) p q
  alike p q c =
      let m = closes_ahead (contour word) w p q (plant_high (contour word) w b) c in
      let side = meeting_side (contour word) w p q m in
      let after = m.after in
      let inside : q < length word = before_last q (under p q c) side.no_stem in
      let here = same_to p (omega arith) in
      let there = same_to (suc q) (omega arith) in
      meets_ahead (contour (whole word)) p q (letter_kept p (omega arith) ∙ c.stem) (stem_still p (omega arith) c.stem) (omega (arith, long)) after
      (omega (arith, m.rises, here.ups, here.downs, there.ups, there.downs))
      (λ k l n. let at = same_to k (omega arith) in omega (arith, m.held k l n, here.ups, here.downs, at.ups, at.downs)) where
        under : (p q : ℕ) → IsClosing (contour word) p q → q < length (contour word)
        under p q c = let l = mod_under (p + c.steps) (length (contour word)) (omega arith) in omega (arith, l, c.meets)

        before_last : (q : ℕ) → q < length (contour word) → (letter (contour word) q ≡ STEM → ⊥) → q < length word
        before_last q l none = elim (cases_lt q (length word)) [
          | inl fine ↦ fine
          | inr past ↦
              let e : length (contour word) - 1 ≡ q = omega arith in
              absurd (none (subst (λ (k : ℕ). letter (contour word) k ≡ STEM) e (high_stem (contour word) w (length (contour word) - 1) (last (contour word) w b)).stem))
        ]

  pub plants : (x : ℕ) → IsInRun (contour word) 0 x → IsAhead (contour (whole word)) x (suc (length word))
  plants x i =
      let level = plants_level (contour word) w b (two_runs word t) x i in
      let high = free_high (contour word) w x i.is_free in
      let inside : x < length word = below x (stem_within (contour word) w x i.is_free.stem) level in
      let here = same_to x (omega arith) in
      meets_ahead (contour (whole word)) x (suc (length word)) (letter_kept x inside ∙ i.is_free.stem) (stem_still x inside i.is_free.stem) (omega (arith, long)) (omega arith)
      (omega (arith, second_new, here.ups, here.downs, level))
      (λ k l n. elim (cases_lt (length word) k) [
        | inl new ↦
            let e : suc (length word) ≡ k = omega arith in
            omega (arith, ap (up (contour (whole word))) e, ap (down (contour (whole word))) e, first_new, here.ups, here.downs, level)
        | inr old ↦ let at = same_to k old in omega (arith, high.highest k (omega arith), here.ups, here.downs, at.ups, at.downs)
      ]) where
        below : (x : ℕ) → x < length (contour word) → up (contour word) x ≡ down (contour word) x → x < length word
        below x l level = elim (cases_lt x (length word)) [
          | inl fine ↦ fine
          | inr past ↦ let e : length word ≡ x = omega arith in absurd (omega (arith, ap (up (contour word)) e, ap (down (contour word)) e, end, level))
        ]

  pub others : (r x : ℕ) → (r ≡ 0 → ⊥) → IsInRun (contour word) r x → x < length word → IsAhead (contour (whole word)) x (length word)
  others r x ne i inside =
      let level = other_level (contour word) w b r x ne i in
      let high = free_high (contour word) w x i.is_free in
      let here = same_to x (omega arith) in
      meets_ahead (contour (whole word)) x (length word) (letter_kept x inside ∙ i.is_free.stem) (stem_still x inside i.is_free.stem) (omega (arith, long)) inside
      (omega (arith, first_new, here.ups, here.downs, level))
      (λ k l n. let at = same_to k n in omega (arith, high.highest k (omega arith), here.ups, here.downs, at.ups, at.downs))

pub closes_alike : ClosesAlike
closes_alike word p q t b c = alike word t b p q c

pub plants_run_closes : PlantsRunCloses
plants_run_closes word stem t b i = plants word t b stem i

pub other_run_closes : OtherRunCloses
other_run_closes word start stem t b ne i l = others word t b start stem ne i l
