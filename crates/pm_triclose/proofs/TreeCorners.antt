-- The corners of the whole tree of a balanced stem tree, by the heights and nodes of the tree.
use Rattle.std.proofs.Common.{◌≡◌, ℕ, zero, suc, ◌+◌, ◌-◌, ◌%◌, ◌<◌, ◌≤◌, inl, inr, List, length, slice_index, refl, ap, ◌∙◌, sym, subst, arith}
use Rattle.pm_brackets.specs.declared.letters.TheConstants.{OPEN}
use Rattle.pm_brackets.proofs.OpenBrackets.{open_at_open, open_is_before}
use Rattle.pm_brackets.proofs.RingPlaces.{mod_stays}
use Rattle.pm_tri.specs.Runs.{IsBalanced}
use Rattle.pm_tri.specs.StemTree.{IsStemTree, contour, node_at, open_before}
use Rattle.pm_tri.specs.Whole.{whole}
use Rattle.pm_tri.proofs.RunLevels.{end_level}
use Rattle.pm_tri.proofs.SideCounts.{down, down_none, each_letter, side_step, stem_step, tree_falls, up, up_none}
use Rattle.pm_triclose.proofs.OpenStems.{opener_here}
use Rattle.pm_triclose.proofs.WholeInOrder.{other_run}
use Rattle.pm_triclose.proofs.WholeOf.{IsWholeOf}

module _ (word : List ℕ) (t : IsStemTree word) (b : IsBalanced (contour word)) where
  w : IsWholeOf (contour word) (contour (whole word)) (length word) (other_run word t b).0
  w = (other_run word t b).1

  -- the corners of the tree have the same heights in both
  pub record IsSameHeight (k : ℕ) : Type 0 where
    pub ups : up (contour (whole word)) k ≡ up (contour word) k
    pub downs : down (contour (whole word)) k ≡ down (contour word) k

  pub same_height : (k : ℕ) → k ≤ length word → IsSameHeight k
  same_height zero l = record { ups = up_none (contour (whole word)) ∙ sym (up_none (contour word)); downs = down_none (contour (whole word)) ∙ sym (down_none (contour word)) }
  same_height (suc k) l =
      let before = same_height k (omega (arith, l)) in
      let wide = w.wide in
      let here = w.kept k (omega (arith, l)) in
      let there : slice_index (contour (whole word)) (k % length (contour (whole word))) ≡ slice_index (contour (whole word)) k = ap (slice_index (contour (whole word))) (mod_stays k (length (contour (whole word))) (omega (arith, l, wide))) in
      let back : slice_index (contour word) (k % length (contour word)) ≡ slice_index (contour word) k = ap (slice_index (contour word)) (mod_stays k (length (contour word)) (omega (arith, l))) in
      elim (each_letter word k t.in_order) [
        | inl side ↦
            let a = side_step (contour word) k side in
            let c = side_step (contour (whole word)) k (elim side [ inl o ↦ inl (there ∙ here ∙ sym back ∙ o) | inr c ↦ inr (there ∙ here ∙ sym back ∙ c) ]) in
            record { ups = omega (arith, before.ups, a.more, c.more); downs = omega (arith, before.downs, a.same, c.same) }
        | inr stem ↦
            let a = stem_step (contour word) k stem in
            let c = stem_step (contour (whole word)) k (there ∙ here ∙ sym back ∙ stem) in
            record { ups = omega (arith, before.ups, a.same, c.same); downs = omega (arith, before.downs, a.more, c.more) }
      ]

  -- and are at the same nodes
  same_open : (k : ℕ) → k ≤ length word → open_before (contour (whole word)) k ≡ open_before (contour word) k
  same_open zero l = refl
  same_open (suc k) l =
      let before = same_open k (omega (arith, l)) in
      let here = w.kept k (omega (arith, l)) in
      rw (before, here) refl

  pub same_node : (k : ℕ) → k ≤ length word → node_at (contour (whole word)) k ≡ node_at (contour word) k
  same_node k l = ap (λ (xs : List ℕ). slice_index xs 0) (same_open k l)

  -- the corner at the first of the two new nodes, and that at the second
  pub first_node : node_at (contour (whole word)) (suc (length word)) ≡ length word
  first_node = ap (λ (xs : List ℕ). slice_index xs 0) (open_at_open (contour (whole word)) (length word) w.first)

  pub second_node : node_at (contour (whole word)) (suc (suc (length word))) ≡ suc (length word)
  second_node =
      let e : length word + 1 ≡ suc (length word) = omega arith in
      ap (λ (xs : List ℕ). slice_index xs 0) (open_at_open (contour (whole word)) (suc (length word)) (subst (λ (k : ℕ). slice_index (contour (whole word)) k ≡ OPEN) e w.second))

  -- nodes of the tree come before the last place
  pub node_low : (k : ℕ) → k ≤ length word → node_at (contour (whole word)) k < length word
  node_low k l = let some = w.some in let a = open_is_before (contour (whole word)) k 0 in omega (arith, a, some, l)

  -- the height at the last place of the tree, and behind it
  pub last_height : down (contour word) (length word) ≡ up (contour word) (length word) + 1
  last_height =
      let e : length (contour word) - 1 ≡ length word = omega arith in
      subst (λ (k : ℕ). down (contour word) k ≡ up (contour word) k + 1) e (end_level (contour word) (tree_falls word t) b)

  pub first_height : down (contour (whole word)) (suc (length word)) ≡ up (contour (whole word)) (suc (length word))
  first_height =
      let s = opener_here (contour (whole word)) (length word) w.first in
      let h = same_height (length word) (omega arith) in
      let e = last_height in
      omega (arith, s.more, s.same, h.ups, h.downs, e)
