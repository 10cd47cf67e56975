-- The letters along the walk: the brackets match, and the buds and leaves of the edges that are cut are pairs.
use Rattle.std.proofs.Common.{◌≡◌, ◌≢◌, ℕ, suc, ◌-◌, ◌%◌, ◌<◌, ◌≤◌, Bool, true, false, inl, inr, List, length, take, refl, sym, ap, ◌∙◌, subst, lit<, take_all, arith, IsTrue}
use Rattle.std.specs.Prelude.{slice_index}
use Rattle.std.proofs.lemmas.Bool.{cases_eq}
use Rattle.std.proofs.lemmas.List.{take-append-le}
use Rattle.std.proofs.lemmas.List.Elements.{All-from_get_or}
use Rattle.pm_trees.specs.declared.letters.TheConstants.{LEAF, BUD}
use Rattle.pm_brackets.specs.declared.letters.TheConstants.{OPEN, CLOSE}
use Rattle.pm_brackets.specs.Word.{IsBracketPair, IsMatched, count}
use Rattle.pm_trees.specs.Word.{IsInOrder, contour, is_letter}
use Rattle.pm_brackets.proofs.Tally.{tally_is}
use Rattle.pm_brackets.proofs.Nesting.{one_closer, one_opener}
use Rattle.pm_brackets.proofs.Levels.{seen, seen_is, IsEven, pair_from_even, matched_from_even}
use Rattle.pm_match.specs.Pair.{IsPair, IsFree}
use Rattle.pm_match.proofs.Counts.{buds, leaves, letter-first, bud_within}
use Rattle.pm_match.proofs.Meeting.{IsMeeting, pair_first, pair_unique}
use Rattle.pm_map.specs.Structure.{Structure, IsStructure}
use Rattle.pm_close.specs.Closure.{IsClosure, IsAcross, from_open, from_close, from_letter, AreTwins, edge_down, edge_up, pair_bud, pair_leaf, free_leaves}
use Rattle.pm_close.proofs.TwinLemmas.{two_letters, by_letter, twins_back}
use Rattle.pm_distances.proofs.Walked.{is_up, is_cut, across, IsWalkedInOrder}
use Rattle.pm_open.proofs.Letters.{IsSpelled}
use Rattle.pm_open.proofs.Opened.{partner, IsOpened}
use Rattle.pm_walk.proofs.Edges.{cut_twin, across_cut, across_kept, partner_cut}
use Rattle.pm_open.proofs.PlaceKinds.{IsKind, a_plant, a_bud, a_leaf, an_open, a_close, kind}
use Rattle.pm_open.proofs.Folded.{IsFolded, folded_below, folded_equal}

-- a structure with what its walk leaves, and the letters along the walk
pub record IsReadAlong (s : Structure) (level : ℕ → ℕ) (places : List ℕ) : Type 0 where
  pub structure : IsStructure s
  pub some : 0 < s.darts
  pub opened : IsOpened s level
  pub root_cut : is_cut s level 0 ≡ true
  pub spelled : IsSpelled s level places

-- the first turn counts the places themselves
buds_seen : (places : List ℕ) (k : ℕ) → k ≤ length places → buds places k ≡ seen BUD places k
unfolding buds
buds_seen places k le = ap (count BUD) (take-append-le k places places le) ∙ sym (tally_is BUD (take k places)) ∙ sym (seen_is BUD places k)

leaves_seen : (places : List ℕ) (k : ℕ) → k ≤ length places → leaves places k ≡ seen LEAF places k
unfolding leaves
leaves_seen places k le = ap (count LEAF) (take-append-le k places places le) ∙ sym (tally_is LEAF (take k places)) ∙ sym (seen_is LEAF places k)

-- a stretch of the places that a function doesn't lead out of
record IsClosedIn (a b : ℕ) (f : ℕ → ℕ) : Type 0 where
  low : (k : ℕ) → a ≤ k → k < b → a ≤ f k
  high : (k : ℕ) → a ≤ k → k < b → f k < b

-- no test has both answers
both_ways : {A : Type 0} {b : Bool} → b ≡ false → b ≡ true → A
both_ways e f = absurd cc

module _ (s : Structure) (level : ℕ → ℕ) (places : List ℕ) (read : IsReadAlong s level places) where
  pub kind_of : (d : ℕ) → d < s.darts → IsKind s level places d
  kind_of d l = kind s level places d read.structure read.root_cut read.spelled l

  -- the letter of the twin, by that of the dart
  pub twin_closes : (d : ℕ) → d < s.darts → is_cut s level d ≡ false → d < s.twin d → slice_index places (s.twin d) ≡ CLOSE
  twin_closes d l kept less =
      let same = cut_twin s (is_up s level) d read.structure l in
      let back = read.structure.twin_back d l in
      elim (kind_of (s.twin d) (read.structure.twin_stays d l)) [
        | a_plant _ cut _ ↦ both_ways (same ∙ kept) cut
        | a_bud _ cut _ _ ↦ both_ways (same ∙ kept) cut
        | a_leaf _ cut _ _ ↦ both_ways (same ∙ kept) cut
        | an_open _ _ again _ ↦ absurd (omega arith)
        | a_close _ _ _ e ↦ e
      ]

  pub twin_opens : (d : ℕ) → d < s.darts → is_cut s level d ≡ false → s.twin d < d → slice_index places (s.twin d) ≡ OPEN
  twin_opens d l kept less =
      let same = cut_twin s (is_up s level) d read.structure l in
      let back = read.structure.twin_back d l in
      elim (kind_of (s.twin d) (read.structure.twin_stays d l)) [
        | a_plant _ cut _ ↦ both_ways (same ∙ kept) cut
        | a_bud _ cut _ _ ↦ both_ways (same ∙ kept) cut
        | a_leaf _ cut _ _ ↦ both_ways (same ∙ kept) cut
        | an_open _ _ _ e ↦ e
        | a_close _ _ again _ ↦ absurd (omega arith)
      ]

  pub twin_is_leaf : (d : ℕ) → d < s.darts → is_cut s level d ≡ true → d < s.twin d → slice_index places (s.twin d) ≡ LEAF
  twin_is_leaf d l cut less =
      let same = cut_twin s (is_up s level) d read.structure l in
      let back = read.structure.twin_back d l in
      elim (kind_of (s.twin d) (read.structure.twin_stays d l)) [
        | a_plant first _ _ ↦ absurd (omega arith)
        | a_bud _ _ again _ ↦ absurd (omega arith)
        | a_leaf _ _ _ e ↦ e
        | an_open _ kept _ _ ↦ both_ways kept (same ∙ cut)
        | a_close _ kept _ _ ↦ both_ways kept (same ∙ cut)
      ]

  pub twin_is_bud : (d : ℕ) → d < s.darts → is_cut s level d ≡ true → 0 < s.twin d → s.twin d < d → slice_index places (s.twin d) ≡ BUD
  twin_is_bud d l cut some less =
      let same = cut_twin s (is_up s level) d read.structure l in
      let back = read.structure.twin_back d l in
      elim (kind_of (s.twin d) (read.structure.twin_stays d l)) [
        | a_plant first _ _ ↦ absurd (omega arith)
        | a_bud _ _ _ e ↦ e
        | a_leaf _ _ again _ ↦ absurd (omega arith)
        | an_open _ kept _ _ ↦ both_ways kept (same ∙ cut)
        | a_close _ kept _ _ ↦ both_ways kept (same ∙ cut)
      ]

  fold_brackets : (a b : ℕ) → b ≤ s.darts → IsClosedIn a b (across s level) → IsFolded places OPEN CLOSE (across s level) a b
  fold_brackets a b le closed = record {
    of_first = λ k low high e. elim (kind_of k (omega arith)) [
      | a_plant _ _ f ↦ two_letters places k LEAF OPEN (omega arith) f e
      | a_bud _ _ _ f ↦ two_letters places k BUD OPEN (omega arith) f e
      | a_leaf _ _ _ f ↦ two_letters places k LEAF OPEN (omega arith) f e
      | an_open _ kept less _ ↦
          let over = across_kept s (is_up s level) k kept in
          (subst (λ (j : ℕ). k < j) (sym over) less, closed.high k low high, ap (slice_index places) over ∙ twin_closes k (omega arith) kept less)
      | a_close _ _ _ f ↦ two_letters places k CLOSE OPEN (omega arith) f e
    ];
    of_second = λ k low high e. elim (kind_of k (omega arith)) [
      | a_plant _ _ f ↦ two_letters places k LEAF CLOSE (omega arith) f e
      | a_bud _ _ _ f ↦ two_letters places k BUD CLOSE (omega arith) f e
      | a_leaf _ _ _ f ↦ two_letters places k LEAF CLOSE (omega arith) f e
      | an_open _ _ _ f ↦ two_letters places k OPEN CLOSE (omega arith) f e
      | a_close _ kept less _ ↦
          let over = across_kept s (is_up s level) k kept in
          (subst (λ (j : ℕ). j < k) (sym over) less, closed.low k low high, ap (slice_index places) over ∙ twin_opens k (omega arith) kept less)
    ];
    twice = λ k low high. read.opened.brackets.twice k (omega arith);
  }

  fold_pairs : (a b : ℕ) → 0 < a → b ≤ s.darts → IsClosedIn a b (partner s level) → IsFolded places BUD LEAF (partner s level) a b
  fold_pairs a b some le closed = record {
    of_first = λ k low high e. elim (kind_of k (omega arith)) [
      | a_plant _ _ f ↦ two_letters places k LEAF BUD (omega arith) f e
      | a_bud _ cut less _ ↦
          let over = partner_cut s (is_up s level) k cut in
          (subst (λ (j : ℕ). k < j) (sym over) less, closed.high k low high, ap (slice_index places) over ∙ twin_is_leaf k (omega arith) cut less)
      | a_leaf _ _ _ f ↦ two_letters places k LEAF BUD (omega arith) f e
      | an_open _ _ _ f ↦ two_letters places k OPEN BUD (omega arith) f e
      | a_close _ _ _ f ↦ two_letters places k CLOSE BUD (omega arith) f e
    ];
    of_second = λ k low high e. elim (kind_of k (omega arith)) [
      | a_plant first _ _ ↦ absurd (omega arith)
      | a_bud _ _ _ f ↦ two_letters places k BUD LEAF (omega arith) f e
      | a_leaf _ cut less _ ↦
          let over = partner_cut s (is_up s level) k cut in
          let start = closed.low k low high in
          let met : a ≤ s.twin k = subst (λ (j : ℕ). a ≤ j) over start in
          (subst (λ (j : ℕ). j < k) (sym over) less, start, ap (slice_index places) over ∙ twin_is_bud k (omega arith) cut (omega arith) less)
      | an_open _ _ _ f ↦ two_letters places k OPEN LEAF (omega arith) f e
      | a_close _ _ _ f ↦ two_letters places k CLOSE LEAF (omega arith) f e
    ];
    twice = λ k low high. read.opened.pairs.twice k (omega arith);
  }

  -- between the two darts of an edge that is kept the brackets match
  closed_by_bracket : (d : ℕ) → d < s.darts → is_cut s level d ≡ false → d < s.twin d → IsClosedIn (suc d) (s.twin d) (across s level)
  closed_by_bracket d l kept less =
      let over = across_kept s (is_up s level) d kept in
      let inside : across s level d < s.darts = read.opened.brackets.stays d l in
      record {
        low = λ k low high. read.opened.brackets_nested.above d k inside low (subst (λ (j : ℕ). k < j) (sym over) high);
        high = λ k low high. subst (λ (j : ℕ). across s level k < j) over (read.opened.brackets_nested.below d k inside low (subst (λ (j : ℕ). k < j) (sym over) high));
      }

  bracket_even : (d : ℕ) → d < s.darts → is_cut s level d ≡ false → d < s.twin d → IsEven places d (s.twin d)
  bracket_even d l kept less =
      let end = read.structure.twin_stays d l in
      let folded = fold_brackets (suc d) (s.twin d) (omega arith) (closed_by_bracket d l kept less) in
      record {
        equal = folded_equal places OPEN CLOSE (across s level) (suc d) (s.twin d) folded less (lit< tt) (lit< tt);
        below = λ j low high. folded_below places OPEN CLOSE (across s level) (suc d) (s.twin d) folded j low high (lit< tt) (lit< tt);
      }

  pub bracket_pair : (d : ℕ) → d < s.darts → is_cut s level d ≡ false → d < s.twin d → slice_index places d ≡ OPEN → IsBracketPair places d (s.twin d)
  bracket_pair d l kept less e = pair_from_even places d (s.twin d) less e (twin_closes d l kept less) (bracket_even d l kept less)

  -- between the two darts of an edge that is cut, and isn't the root's, each bud has its leaf
  closed_by_pair : (d : ℕ) → d < s.darts → is_cut s level d ≡ true → d < s.twin d → IsClosedIn (suc d) (s.twin d) (partner s level)
  closed_by_pair d l cut less =
      let over = partner_cut s (is_up s level) d cut in
      let inside : partner s level d < s.darts = read.opened.pairs.stays d l in
      record {
        low = λ k low high. read.opened.pairs_nested.above d k inside low (subst (λ (j : ℕ). k < j) (sym over) high);
        high = λ k low high. subst (λ (j : ℕ). partner s level k < j) over (read.opened.pairs_nested.below d k inside low (subst (λ (j : ℕ). k < j) (sym over) high));
      }

  bud_meets : (d : ℕ) → d < s.darts → is_cut s level d ≡ true → d < s.twin d → slice_index places d ≡ BUD → IsMeeting places d (s.twin d)
  bud_meets d l cut less e =
      let long = read.spelled.as_long in
      let end = read.structure.twin_stays d l in
      let folded = fold_pairs (suc d) (s.twin d) (omega arith) (omega arith) (closed_by_pair d l cut less) in
      let equal = folded_equal places BUD LEAF (partner s level) (suc d) (s.twin d) folded less (lit< tt) (lit< tt) in
      let first_buds = buds_seen places (suc d) (omega arith) in
      let first_leaves = leaves_seen places (suc d) (omega arith) in
      record {
        bud = letter-first places d (omega arith) ∙ e;
        leaf = letter-first places (s.twin d) (omega arith) ∙ twin_is_leaf d l cut less;
        before = less;
        level = omega (arith, equal, first_buds, first_leaves, buds_seen places (s.twin d) (omega arith), leaves_seen places (s.twin d) (omega arith));
        above = λ k low high.
            let below = folded_below places BUD LEAF (partner s level) (suc d) (s.twin d) folded k low high (lit< tt) (lit< tt) in
            omega (arith, below, first_buds, first_leaves, buds_seen places k (omega arith), leaves_seen places k (omega arith));
      }

  pub bud_pair : (d : ℕ) → d < s.darts → is_cut s level d ≡ true → d < s.twin d → slice_index places d ≡ BUD → IsPair places d (s.twin d)
  bud_pair d l cut less e =
      let long = read.spelled.as_long in
      let end = read.structure.twin_stays d l in
      pair_first places d (s.twin d) (bud_meets d l cut less e) (omega arith)

  -- what is known of a pair: its leaf is the twin of its bud
  record IsOwnPair (p q : ℕ) : Type 0 where
    inside : p < s.darts
    some : 0 < p
    less : p < s.twin p
    own : q ≡ s.twin p

  own_pair : (p q : ℕ) → IsPair places p q → IsOwnPair p q
  own_pair p q pair =
      let within = bud_within places p pair.bud in
      let long = read.spelled.as_long in
      let l : p < s.darts = omega arith in
      elim (kind_of p l) [
        | a_plant _ _ f ↦ two_letters places p LEAF BUD (omega arith) f pair.bud
        | a_bud some cut less e ↦ record { inside = l; some = some; less = less; own = pair_unique places p q (s.twin p) pair (bud_pair p l cut less e) }
        | a_leaf _ _ _ f ↦ two_letters places p LEAF BUD (omega arith) f pair.bud
        | an_open _ _ _ f ↦ two_letters places p OPEN BUD (omega arith) f pair.bud
        | a_close _ _ _ f ↦ two_letters places p CLOSE BUD (omega arith) f pair.bud
      ]

  -- the two darts of the root's edge are free
  pub plant_free : IsFree places 0
  plant_free = record {
    leaf = elim (kind_of 0 read.some) [
      | a_plant _ _ f ↦ f
      | a_bud some _ _ _ ↦ absurd (omega arith)
      | a_leaf some _ _ _ ↦ absurd (omega arith)
      | an_open some _ _ _ ↦ absurd (omega arith)
      | a_close some _ _ _ ↦ absurd (omega arith)
    ];
    alone = λ p pair. let h = own_pair p 0 pair in omega (arith, h.less, h.own);
  }

  pub twin_free : IsFree places (s.twin 0)
  twin_free =
      let apart = read.structure.twin_other 0 read.some in
      record {
        leaf = twin_is_leaf 0 read.some read.root_cut (omega arith);
        alone = λ p pair.
            let h = own_pair p (s.twin 0) pair in
            let same = sym (read.structure.twin_back 0 read.some) ∙ ap s.twin h.own ∙ read.structure.twin_back p h.inside in
            omega (arith, h.some, same);
      }

  free_edge : (d : ℕ) → d ≡ 0 → AreTwins places d (s.twin d)
  free_edge d e =
      let apart = read.structure.twin_other 0 read.some in
      subst (λ (k : ℕ). AreTwins places k (s.twin k)) (sym e) (free_leaves plant_free twin_free (λ f. apart (sym f)))

  -- twins are twins by the letters
  pub are_twins : (d : ℕ) → d < s.darts → AreTwins places d (s.twin d)
  are_twins d l =
      let same = cut_twin s (is_up s level) d read.structure l in
      let back = read.structure.twin_back d l in
      let end = read.structure.twin_stays d l in
      elim (kind_of d l) [
        | a_plant first _ _ ↦ free_edge d first
        | a_bud _ cut less e ↦ pair_bud (bud_pair d l cut less e)
        | a_leaf _ cut less _ ↦ elim (cases_eq (s.twin d) 0) [
          | inl first ↦ twins_back places (s.twin d) d (subst (λ (k : ℕ). AreTwins places (s.twin d) k) back (free_edge (s.twin d) first))
          | inr later ↦ pair_leaf (subst (λ (k : ℕ). IsPair places (s.twin d) k) back
              (bud_pair (s.twin d) end (same ∙ cut) (omega arith) (twin_is_bud d l cut (omega arith) less)))
        ]
        | an_open _ kept less e ↦ edge_down (bracket_pair d l kept less e)
        | a_close _ kept less _ ↦ edge_up (subst (λ (k : ℕ). IsBracketPair places (s.twin d) k) back
            (bracket_pair (s.twin d) end (same ∙ kept) (omega arith) (twin_opens d l kept less)))
      ]

  -- the dart across is the place across
  pub is_across : (p q : ℕ) → p < s.darts → IsAcross places p q → q ≡ across s level p
  is_across p q l a =
      let twins = are_twins p l in
      elim (kind_of p l) [
        | a_plant _ cut e ↦ itself p q cut a (λ o. two_letters places p LEAF OPEN (omega arith) e o) (λ c. two_letters places p LEAF CLOSE (omega arith) e c)
        | a_bud _ cut _ e ↦ itself p q cut a (λ o. two_letters places p BUD OPEN (omega arith) e o) (λ c. two_letters places p BUD CLOSE (omega arith) e c)
        | a_leaf _ cut _ e ↦ itself p q cut a (λ o. two_letters places p LEAF OPEN (omega arith) e o) (λ c. two_letters places p LEAF CLOSE (omega arith) e c)
        | an_open _ kept _ e ↦
            let pair = (by_letter places p (s.twin p) twins).at_open e in
            elim a [
              | from_open h ↦ one_closer places p q (s.twin p) h pair ∙ sym (across_kept s (is_up s level) p kept)
              | from_close h ↦ two_letters places p OPEN CLOSE (omega arith) e h.closes
              | from_letter not_open _ _ ↦ absurd (not_open e)
            ]
        | a_close _ kept _ e ↦
            let pair = (by_letter places p (s.twin p) twins).at_close e in
            elim a [
              | from_open h ↦ two_letters places p OPEN CLOSE (omega arith) h.opens e
              | from_close h ↦ one_opener places q p (s.twin p) h pair ∙ sym (across_kept s (is_up s level) p kept)
              | from_letter _ not_close _ ↦ absurd (not_close e)
            ]
      ] where
        itself : (p q : ℕ) → is_cut s level p ≡ true → IsAcross places p q → (slice_index places p ≡ OPEN → ⊥) → (slice_index places p ≡ CLOSE → ⊥) → q ≡ across s level p
        itself p q cut a no_open no_close = elim a [
          | from_open h ↦ absurd (no_open h.opens)
          | from_close h ↦ absurd (no_close h.closes)
          | from_letter _ _ e ↦ sym e ∙ sym (across_cut s (is_up s level) p cut)
        ]

  -- the structure is the closure
  pub is_closure : IsWalkedInOrder s level → IsClosure places s
  is_closure walked =
      let long = read.spelled.as_long in
      record {
        darts = sym long;
        rotation = λ p q l a. around p q (omega arith) a;
        twins = λ p l. are_twins p (omega arith);
        root = walked.root;
      } where
        around : (p q : ℕ) → p < s.darts → IsAcross places p q → s.next p ≡ suc q % length places
        around p q l a =
            let over = is_across p q l a in
            let inside : q < s.darts = subst (λ (k : ℕ). k < s.darts) (sym over) (read.opened.brackets.stays p l) in
            let back : across s level q ≡ p = ap (across s level) over ∙ read.opened.brackets.twice p l in
            ap s.next (sym back) ∙ walked.onward q inside ∙ ap (λ (n : ℕ). suc q % n) (sym read.spelled.as_long)

  -- after the root the brackets match
  whole_closed : IsClosedIn 1 s.darts (across s level)
  whole_closed = record {
    low = λ k low high. elim (cases_eq (across s level k) 0) [
      | inl e ↦ absurd (low_is_none k low (sym (read.opened.brackets.twice k high) ∙ ap (across s level) e ∙ across_cut s (is_up s level) 0 read.root_cut))
      | inr some ↦ not_zero (across s level k) some
    ];
    high = λ k low high. read.opened.brackets.stays k high;
  } where
    low_is_none : (k : ℕ) → 1 ≤ k → k ≡ 0 → ⊥
    low_is_none k l e = omega arith

    not_zero : (k : ℕ) → k ≢ 0 → 1 ≤ k
    not_zero k ne = omega arith

  pub whole_even : IsEven places 0 s.darts
  whole_even =
      let some = read.some in
      let folded = fold_brackets 1 s.darts (omega arith) whole_closed in
      record {
        equal = folded_equal places OPEN CLOSE (across s level) 1 s.darts folded (omega arith) (lit< tt) (lit< tt);
        below = λ j low high. folded_below places OPEN CLOSE (across s level) 1 s.darts folded j low high (lit< tt) (lit< tt);
      }

  pub is_a_letter : (d : ℕ) → d < s.darts → IsTrue (is_letter (slice_index places d))
  is_a_letter d l = elim (kind_of d l) [
    | a_plant _ _ e ↦ subst (λ (x : ℕ). IsTrue (is_letter x)) (sym e) refl
    | a_bud _ _ _ e ↦ subst (λ (x : ℕ). IsTrue (is_letter x)) (sym e) refl
    | a_leaf _ _ _ e ↦ subst (λ (x : ℕ). IsTrue (is_letter x)) (sym e) refl
    | an_open _ _ _ e ↦ subst (λ (x : ℕ). IsTrue (is_letter x)) (sym e) refl
    | a_close _ _ _ e ↦ subst (λ (x : ℕ). IsTrue (is_letter x)) (sym e) refl
  ]

-- the word is in order
pub in_order : (s : Structure) (level : ℕ → ℕ) (word : List ℕ) → IsReadAlong s level (contour word) → IsInOrder word
in_order s level word read =
    let long = read.spelled.as_long in
    let end : suc (length word) ≡ s.darts = long in
    record {
      letters = All-from_get_or (λ x. IsTrue (is_letter x)) word 0 (λ i l. is_a_letter s level (contour word) read (suc i) (omega arith));
      matched =
          let even = subst (IsEven (contour word) 0) (sym end) (whole_even s level (contour word) read) in
          let m = matched_from_even (contour word) 0 (suc (length word)) (omega arith) even in
          let e : take (suc (length word) - 1) word ≡ word = take_all (suc (length word) - 1) word (omega arith) in
          subst (λ (xs : List ℕ). IsMatched xs) e m;
    }
