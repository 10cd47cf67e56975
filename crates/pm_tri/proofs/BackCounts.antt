-- The contour read backwards, sides as 1 and stems as -1: its good starts for 2 are the last corners of their heights.
use Rattle.std.proofs.Common.{◌≡◌, ℕ, zero, suc, ◌+◌, ◌-◌, ◌<◌, ◌≤◌, inl, inr, List, length, slice_index, get_or, refl, ap, ◌∙◌, sym, arith, ℤ, pos, negsuc, ◌+ℤ◌, neg_ℤ, ◌≤ℤ◌}
use Rattle.std.proofs.lemmas.Bool.{cases_eq, cases_lt, eq-eqb, ne_eqb}
use Rattle.std.proofs.lemmas.Int.{ints}
use Rattle.pm_words.specs.Word.{IsWord, sum_of}
use Rattle.pm_words.proofs.Heights.{IsLow, height, height-all, height-more, height-none}
use Rattle.pm_tri.specs.declared.letters.TheConstants.{STEM}
use Rattle.pm_tri.specs.steps.ReadBack.{IsReadBack}
use Rattle.pm_tri.proofs.SideCounts.{IsFalling, IsSideAt, IsStemAt, down, down_none, up, up_none}
use Rattle.pm_tri.proofs.HighCorners.{high_stem, place_letter, turn_high}
use Rattle.pm_tri.proofs.RunCorners.{IsDrop}

module _ (places : List ℕ) (w : IsFalling places) (counts : List ℤ) (b : IsReadBack places counts) where
  -- the count of a place, from its steps
  data IsCount (k : ℕ) (count : ℤ) : Type 0 where
    one_up : count ≡ pos 1 → IsSideAt places k → IsCount k count
    one_down : count ≡ negsuc 0 → IsStemAt places k → IsCount k count

  counted : (i : ℕ) → i < length places → IsCount (length places - suc i) (get_or counts i (pos 0))
  counted i l =
      let here = place_letter places w (length places - suc i) (omega arith) in
      elim (w.step (length places - suc i)) [
        | inl s ↦ one_up (b.each i l ∙ rw (ne_eqb (slice_index places (length places - suc i)) STEM (λ e. s.no_stem (here ∙ e))) refl) s
        | inr s ↦ one_down (b.each i l ∙ rw (eq-eqb (slice_index places (length places - suc i)) STEM (sym here ∙ s.stem)) refl) s
      ]

  -- the height of a prefix of the counts is the rise of the walk behind it
  back_height : (i : ℕ) → i ≤ length places → height counts i +ℤ pos (up places (length places - i) + down places (length places)) ≡ pos (up places (length places) + down places (length places - i))
  back_height zero l =
      let e : length places - 0 ≡ length places = omega arith in
      omega (arith, ints, height-none counts, ap (up places) e, ap (down places) e)
  back_height (suc i) l =
      let before = back_height i (omega arith) in
      let long = b.as_long in
      let more = height-more counts i (omega arith) in
      let e : i + 1 ≡ suc i = omega arith in
      let h = ap (height counts) e in
      let f : length places - i ≡ suc (length places - suc i) = omega arith in
      let u = ap (up places) f in
      let d = ap (down places) f in
      step (counted i (omega arith)) before more h u d where
        step : IsCount (length places - suc i) (get_or counts i (pos 0)) → height counts i +ℤ pos (up places (length places - i) + down places (length places)) ≡ pos (up places (length places) + down places (length places - i))
            → height counts (i + 1) ≡ height counts i +ℤ get_or counts i (pos 0) → height counts (i + 1) ≡ height counts (suc i)
            → up places (length places - i) ≡ up places (suc (length places - suc i)) → down places (length places - i) ≡ down places (suc (length places - suc i))
            → height counts (suc i) +ℤ pos (up places (length places - suc i) + down places (length places)) ≡ pos (up places (length places) + down places (length places - suc i))
        step (one_up e s) before more h u d = omega (arith, ints, e, before, more, h, u, d, s.more, s.same)
        step (one_down e s) before more h u d = omega (arith, ints, e, before, more, h, u, d, s.more, s.same)

  pub back_word : IsWord counts
  back_word = record {
    least = λ i l. let long = b.as_long in least (length places - suc i) (get_or counts i (pos 0)) (counted i (omega arith));
  } where
    least : (k : ℕ) (count : ℤ) → IsCount k count → negsuc 0 ≤ℤ count
    least k count (one_up e s) = omega (arith, ints, e)
    least k count (one_down e s) = omega (arith, ints, e)

  pub back_sum : sum_of counts ≡ neg_ℤ (pos 2)
  back_sum =
      let h = back_height (length places) (omega arith) in
      let e : length places - length places ≡ 0 = omega arith in
      let long = b.as_long in
      omega (arith, ints, h, ap (up places) e, ap (down places) e, up_none places, down_none places, height-all counts (length places) (omega arith), w.falls)

  -- the height at a place of the turn
  back_at : (i k : ℕ) → i ≤ length places → length places - i ≡ k → height counts i +ℤ pos (up places k + down places (length places)) ≡ pos (up places (length places) + down places k)
  back_at i k l e = omega (arith, ints, back_height i l, ap (up places) e, ap (down places) e)

  -- a corner above all those of the turn behind it
  strict_drop : (c : ℕ) → ((k : ℕ) → c < k → k ≤ c + length places → up places k + down places c < up places c + down places k) → IsDrop places c
  strict_drop c h =
      let high = turn_high places w c (λ k l m. elim (cases_eq c k) [
        | inl e ↦ let u = ap (up places) e in let d = ap (down places) e in omega (arith, u, d)
        | inr ne ↦ omega (arith, h k (omega arith) m)
      ]) in
      let s = high_stem places w c high in
      record {
        here = high;
        next = turn_high places w (suc c) (λ k l m. elim (cases_lt (c + length places) k) [
          | inr near ↦ omega (arith, h k (omega arith) near, s.same, s.more)
          | inl far ↦
              let e : k ≡ suc c + length places = omega arith in
              omega (arith, ap (up places) e, ap (down places) e, w.turn_up (suc c), w.turn_down (suc c), w.falls)
        ]);
      }

  drop_strict : (c k : ℕ) → IsDrop places c → c < k → up places k + down places c < up places c + down places k
  drop_strict c k d l = let s = high_stem places w c d.here in omega (arith, d.next.highest k (omega arith), s.same, s.more)

  pub low_drops : (s : ℕ) → s < length places → IsLow 2 counts s → IsDrop places (length places - s)
  low_drops s l low = strict_drop (length places - s) (λ k m n.
      let here = back_height s (omega arith) in
      let long = b.as_long in
      elim (cases_lt (length places) k) [
        | inr first ↦
            let there = back_at (length places - k) k (omega arith) (omega arith) in
            omega (arith, ints, here, there, low.before (length places - k) (omega arith))
        | inl second ↦
            let e : (k - length places) + length places ≡ k = omega arith in
            let u = ap (up places) e in
            let d = ap (down places) e in
            elim (cases_eq (k - length places) (length places - s)) [
              | inl same ↦
                  let u2 = ap (up places) same in
                  let d2 = ap (down places) same in
                  omega (arith, u, d, u2, d2, w.turn_up (k - length places), w.turn_down (k - length places), w.falls)
              | inr other ↦
                  let there = back_at (length places - (k - length places)) (k - length places) (omega arith) (omega arith) in
                  omega (arith, ints, here, there, u, d, w.turn_up (k - length places), w.turn_down (k - length places), w.falls, low.after (length places - (k - length places)) (omega arith) (omega arith))
            ]
      ])

  pub drop_low : (s : ℕ) → s < length places → IsDrop places (length places - s) → IsLow 2 counts s
  drop_low s l d =
      let here = back_height s (omega arith) in
      let long = b.as_long in
      record {
        within = omega arith;
        before = λ i m. omega (arith, ints, here, back_height i (omega arith), drop_strict (length places - s) (length places - i) d (omega arith));
        after = λ i m n.
            omega (arith, ints, here, back_height i (omega arith), drop_strict (length places - s) (length places - i + length places) d (omega arith), w.turn_up (length places - i), w.turn_down (length places - i), w.falls);
      }
