-- The places of the whole tree of a balanced stem tree: brackets with their other ones, and stems that close ahead.
use Rattle.std.proofs.Common.{◌≡◌, ◌⊎◌, ℕ, suc, ◌+◌, ◌-◌, ◌*◌, ◌%◌, ◌<◌, ◌≤◌, Bool, cond, ltb, inl, inr, List, length, slice_index, ap, ◌∙◌, sym, subst, arith, lt-ltb, le-ltb}
use Rattle.std.proofs.lemmas.Bool.{cases_eq, cases_lt}
use Rattle.pm_brackets.specs.Ring.{AreBrackets}
use Rattle.pm_brackets.specs.Word.{IsBracketing, IsOther}
use Rattle.pm_brackets.specs.declared.letters.TheConstants.{OPEN, CLOSE}
use Rattle.pm_brackets.proofs.Bracketed.{bracketing_exists}
use Rattle.pm_brackets.proofs.Levels.{inside}
use Rattle.pm_brackets.proofs.RingPlaces.{mod_stays}
use Rattle.pm_tri.specs.declared.letters.TheConstants.{STEM}
use Rattle.pm_tri.specs.Runs.{IsBalanced}
use Rattle.pm_tri.specs.StemTree.{IsStemTree, contour}
use Rattle.pm_tri.specs.Whole.{IsAhead, whole}
use Rattle.pm_tri.proofs.RunStarts.{two_runs}
use Rattle.pm_tri.proofs.SideCounts.{each_letter}
use Rattle.pm_triclose.proofs.AheadOrder.{IsStemRing}
use Rattle.pm_triclose.proofs.AheadStems.{old_stem, stem_old}
use Rattle.pm_triclose.proofs.WholeBrackets.{IsNew, at_first, at_fourth, at_second, at_third, is_new, new_brackets, old_brackets}
use Rattle.pm_triclose.proofs.WholeOf.{IsClosed, IsWholeOf, at_side, in_other, in_plants, second_start, whole_of}

module _ (places all : List ℕ) (last start : ℕ) (w : IsWholeOf places all last start) where
  -- each stem closes ahead
  pub closes_somewhere : (x : ℕ) → slice_index all x ≡ STEM → (q : ℕ) × IsAhead all x q
  closes_somewhere x e = found (w.each x (old_stem places all last start w x e)) where
    found : IsClosed places start x → (q : ℕ) × IsAhead all x q
    found (at_side q c) = (q, w.closes_old x q c)
    found (in_plants i) = (suc last, w.closes_a x i)
    found (in_other i) = (last, w.closes_b x i (stem_old places all last start w x e))

  end_of : (x : ℕ) → (slice_index all x ≡ STEM) ⊎ (slice_index all x ≡ STEM → ⊥) → ℕ
  end_of x (inl e) = (closes_somewhere x e).0
  end_of x (inr ne) = 0

  pub end_at : ℕ → ℕ
  end_at x = end_of x (cases_eq (slice_index all x) STEM)

  end_is : (x : ℕ) (c : (slice_index all x ≡ STEM) ⊎ (slice_index all x ≡ STEM → ⊥)) → slice_index all x ≡ STEM → IsAhead all x (end_of x c)
  unfolding end_of
  end_is x (inl e) h = (closes_somewhere x e).1
  end_is x (inr ne) h = absurd (ne h)

  end_closes : (x : ℕ) → slice_index all x ≡ STEM → IsAhead all x (end_at x)
  unfolding end_at
  end_closes x e = end_is x (cases_eq (slice_index all x) STEM) e

  module _ (other : List ℕ) (b : IsBracketing places other) where
    -- the other bracket, in the tree or of the new four
    pub across_all : ℕ → ℕ
    across_all p = cond {A = ℕ} (ltb p last) (slice_index other p) ((2 * last + 3) - p)

    across_old : (p : ℕ) → p < last → across_all p ≡ slice_index other p
    unfolding across_all
    across_old p l = ap (λ (c : Bool). cond {A = ℕ} c (slice_index other p) ((2 * last + 3) - p)) (lt-ltb p last l)

    across_new : (p : ℕ) → last ≤ p → across_all p ≡ (2 * last + 3) - p
    unfolding across_all
    across_new p l = ap (λ (c : Bool). cond {A = ℕ} c (slice_index other p) ((2 * last + 3) - p)) (le-ltb p last l)

    brackets_all : (p : ℕ) → p < length all → (slice_index all p ≡ OPEN) ⊎ (slice_index all p ≡ CLOSE) → AreBrackets all p (across_all p)
    brackets_all p within side = elim (cases_lt p last) [
      | inl old ↦ subst (AreBrackets all p) (sym (across_old p old)) (old_brackets places all last start w p (slice_index other p) (elim side [
        | inl o ↦ inl (b.of_open p (sym (w.kept p old) ∙ o))
        | inr c ↦ inr (b.of_close p (sym (w.kept p old) ∙ c))
      ]))
      | inr new ↦
          let wide = w.wide in
          let pair = new_brackets places all last start w p (is_new last p new (omega (arith, wide, within))) in
          let e = across_new p new in
          subst (AreBrackets all p) (omega (arith, pair.2, e)) pair.1
    ]

    alone_all : (p : ℕ) → slice_index all p ≡ STEM → across_all p ≡ p
    alone_all p e =
        let l = stem_old places all last start w p e in
        let long = w.long in
        let s = old_stem places all last start w p e in
        across_old p l ∙ b.of_letter p (omega (arith, l, long)) (λ o. omega (arith, s, o)) (λ c. omega (arith, s, c))

    new_bracket : (p : ℕ) → IsNew last p → (slice_index all p ≡ OPEN) ⊎ (slice_index all p ≡ CLOSE)
    new_bracket p (at_first e) = inl (ap (slice_index all) e ∙ w.first)
    new_bracket p (at_second e) = inl (ap (slice_index all) e ∙ w.second)
    new_bracket p (at_third e) = inr (ap (slice_index all) e ∙ w.third)
    new_bracket p (at_fourth e) = inr (ap (slice_index all) e ∙ w.fourth)

    pub stem_ring : ((p : ℕ) → p < last → ((slice_index places p ≡ OPEN) ⊎ (slice_index places p ≡ CLOSE)) ⊎ (slice_index places p ≡ STEM)) → IsStemRing all across_all end_at
    stem_ring letters = record {
      some = let wide = w.wide in omega (arith, wide);
      letters = λ p within. elim (cases_lt p last) [
        | inr new ↦ let wide = w.wide in inl (new_bracket p (is_new last p new (omega (arith, wide, within))))
        | inl old ↦ elim (letters p old) [
          | inr stem ↦ inr (w.kept p old ∙ stem)
          | inl side ↦ inl (elim side [ inl o ↦ inl (w.kept p old ∙ o) | inr c ↦ inr (w.kept p old ∙ c) ])
        ]
      ];
      brackets = λ p side. brackets_all p (elim side [ inl o ↦ inside all p OPEN (omega arith) o | inr c ↦ inside all p CLOSE (omega arith) c ]) side;
      alone = alone_all;
      closes = end_closes;
    }

-- the ring of the whole tree
pub record HasStemRing (places : List ℕ) : Type 0 where
  pub across : ℕ → ℕ
  pub ends : ℕ → ℕ
  pub ring : IsStemRing places across ends

pub tree_ring : (word : List ℕ) → IsStemTree word → IsBalanced (contour word) → HasStemRing (contour (whole word))
tree_ring word t b =
    let bare : IsOther STEM = record { not_open = λ e. omega (arith, e); not_close = λ e. omega (arith, e) } in
    let bracketing = bracketing_exists STEM bare word t.in_order.matched in
    let w = whole_of word t b (two_runs word t).later (second_start (contour word) b (two_runs word t)) in
    record {
      across = across_all (contour word) (contour (whole word)) (length word) (two_runs word t).later w bracketing.0 bracketing.1;
      ends = end_at (contour word) (contour (whole word)) (length word) (two_runs word t).later w;
      ring = stem_ring (contour word) (contour (whole word)) (length word) (two_runs word t).later w bracketing.0 bracketing.1 (λ p l.
          let long = w.long in
          let e : slice_index (contour word) p ≡ slice_index (contour word) (p % length (contour word)) = ap (slice_index (contour word)) (sym (mod_stays p (length (contour word)) (omega (arith, l, long)))) in
          elim (each_letter word p t.in_order) [
            | inr stem ↦ inr (e ∙ stem)
            | inl side ↦ inl (elim side [ inl o ↦ inl (e ∙ o) | inr c ↦ inr (e ∙ c) ])
          ]);
    }
