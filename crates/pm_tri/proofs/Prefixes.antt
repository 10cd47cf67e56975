-- A tree is balanced exactly where its last letter is a stem and no prefix of its contour has more sides than stems.
use Rattle.std.proofs.Common.{◌≡◌, ℕ, suc, ◌+◌, ◌-◌, ◌≤◌, inl, inr, List, length, slice_index, ap, ◌∙◌, sym, subst, arith}
use Rattle.std.proofs.lemmas.Bool.{cases_eq}
use Rattle.pm_tri.specs.RunLaws.{BalancedIsBelow}
use Rattle.pm_tri.specs.Runs.{IsBelow}
use Rattle.pm_tri.specs.StemTree.{contour}
use Rattle.pm_tri.proofs.SideCounts.{IsFalling, IsStemAt, down, down_is, down_none, tree_falls, up, up_is, up_none}
use Rattle.pm_tri.proofs.HighCorners.{IsHigh, high_again, high_before, high_stem, place_letter, stem_at, turn_high}
use Rattle.pm_tri.proofs.RunCorners.{IsDrop, start_corners}

module _ (places : List ℕ) (w : IsFalling places) where
  -- the walk never rises above its start where no prefix does in the first turn
  pub prefixes_high : ((k : ℕ) → k ≤ length places → up places k ≤ down places k) → IsHigh places 0
  prefixes_high h = turn_high places w 0 (λ k l m. omega (arith, up_none places, down_none places, h k (omega arith)))

  -- a stem before a high corner stands at one
  pub high_back : (c : ℕ) → IsStemAt places c → IsHigh places (suc c) → IsHigh places c
  high_back c s h = record {
    highest = λ k l. elim (cases_eq c k) [
      | inl e ↦ let a = ap (up places) e in let b = ap (down places) e in omega (arith, a, b)
      | inr ne ↦ omega (arith, h.highest k (omega arith), s.same, s.more)
    ];
  }

  pub below_drops : IsBelow places → IsDrop places (length places - 1)
  below_drops b =
      let some = w.some in
      let whole : 0 + length places ≡ suc (length places - 1) = omega arith in
      let here : suc (length places - 1) ≡ length places = omega arith in
      let end = subst (IsHigh places) whole (high_again places w 0 (prefixes_high (λ k l. omega (arith, up_is places k, down_is places k, b.prefixes k l)))) in
      let s = stem_at places w (length places - 1) (place_letter places w (length places - 1) (omega arith) ∙ b.last (length places - 1) here) in
      record { here = high_back (length places - 1) s end; next = end }

  pub drops_below : IsDrop places (length places - 1) → IsBelow places
  drops_below d =
      let some = w.some in
      let whole : suc (length places - 1) ≡ 0 + length places = omega arith in
      let start = high_before places w 0 (subst (IsHigh places) whole d.next) in
      record {
        prefixes = λ k l. omega (arith, up_is places k, down_is places k, up_none places, down_none places, start.highest k (omega arith));
        last = λ k e.
            let at : length places - 1 ≡ k = omega arith in
            ap (slice_index places) (sym at) ∙ sym (place_letter places w (length places - 1) (omega arith)) ∙ (high_stem places w (length places - 1) d.here).stem;
      }

pub balanced_below : BalancedIsBelow
balanced_below word t =
    let w = tree_falls word t in
    let both = start_corners (contour word) w 0 (omega arith) in
    let e : 0 + (length (contour word) - 1) ≡ length (contour word) - 1 = omega arith in
    (λ b. drops_below (contour word) w (subst (IsDrop (contour word)) e (both.0 b)), λ b. both.1 (subst (IsDrop (contour word)) (sym e) (below_drops (contour word) w b)))
