-- The closure of a balanced tree is plane: its brackets are nested along the ring of places, and so are its pairs.
use Rattle.std.proofs.Common.{◌≡◌, ◌≢◌, ℕ, zero, suc, ◌+◌, ◌*◌, ◌/◌, ◌%◌, ◌<◌, ◌⊎◌, inl, inr, Bool, false, not, ltb, eqb, cond, List, length, sym, ◌∙◌, ap, subst, arith}
use Rattle.std.specs.Prelude.{slice_index}
use Rattle.std.proofs.lemmas.Bool.{cases_lt, cases_eq, lt-ltb, le-ltb, ne_eqb}
use Rattle.pm_perm.specs.Cycles.{cycles}
use Rattle.pm_perm.specs.Pairs.{IsRingBelow, IsInvolutionBelow, IsNestedBelow, pairs}
use Rattle.pm_perm.proofs.Counts.{count_below-split, count_below-parts}
use Rattle.pm_perm.proofs.Nested.{cycles-nested}
use Rattle.pm_trees.specs.declared.letters.TheConstants.{LEAF, BUD}
use Rattle.pm_brackets.specs.declared.letters.TheConstants.{OPEN, CLOSE}
use Rattle.pm_brackets.specs.Word.{IsBracketPair, IsBracketing}
use Rattle.pm_trees.specs.Word.{contour}
use Rattle.pm_trees.specs.Blossoming.{IsBlossoming}
use Rattle.pm_trees.proofs.Balance.{two_more_leaves}
use Rattle.pm_trees.proofs.FourLetters.{bracketing_exists}
use Rattle.pm_brackets.proofs.Nesting.{opens_inside, closes_inside, other_twice, other_below}
use Rattle.pm_match.specs.Pair.{IsFree, IsBalanced}
use Rattle.pm_match.proofs.Counts.{letter-first, surplus_from}
use Rattle.pm_match.proofs.Meeting.{IsMeeting, pair_first}
use Rattle.pm_match.proofs.Straight.{IsStraight, straight, bud_inside, leaf_inside, bud_before_free}
use Rattle.pm_map.specs.Structure.{Structure, face_next}
use Rattle.pm_map.specs.Plane.{HasEulerTwo}
use Rattle.pm_close.specs.Closure.{IsClosure, AreTwins, edge_down, edge_up, pair_bud, pair_leaf, free_leaves}
use Rattle.pm_map.specs.EdgeNumbers.{IsTwinning}
use Rattle.pm_close.proofs.TwinLemmas.{HasOnePartner, twin_within}
use Rattle.pm_close.proofs.ClosureLemmas.{laid_out_twins, bracketing_across, succ_last, succ_inside}
use Rattle.pm_map.proofs.NumberedEdges.{firsts_is, firsts_half}
use Rattle.pm_close.proofs.RootedClosure.{has_across}

-- how a place and its twin stand to the place across: the twin of a bracket is across, and a letter is across itself
data IsTurn (places : List ℕ) (across t : ℕ → ℕ) (p : ℕ) : Type 0 where
  bracket : across p ≡ t p → across (t p) ≡ p → IsTurn places across t p
  letter_turn : (slice_index places p ≡ OPEN → ⊥) → (slice_index places p ≡ CLOSE → ⊥) → across p ≡ p → across (t p) ≡ t p → IsTurn places across t p

-- a contour with all that its closure is made of
record IsDrawn (places other : List ℕ) (t : ℕ → ℕ) : Type 0 where
  bracketing : IsBracketing places other
  one : HasOnePartner places
  twins : (p : ℕ) → p < length places → AreTwins places p (t p)
  is_straight : IsStraight places

module _ (places other : List ℕ) (t : ℕ → ℕ) (drawn : IsDrawn places other t) where
  across : ℕ → ℕ
  across p = slice_index other p

  twinning : IsTwinning (length places) t
  twinning = laid_out_twins places (slice_index other) t (record { one = drawn.one; is_across = bracketing_across places other drawn.bracketing; are_twins = drawn.twins })

  -- the letter at the end of a pair is across itself
  own_letter : (p x : ℕ) → slice_index places p ≡ x → p < length places → x ≢ OPEN → x ≢ CLOSE → slice_index other p ≡ p
  own_letter p x e l no_open no_close = drawn.bracketing.of_letter p l (λ o. no_open (sym e ∙ o)) (λ c. no_close (sym e ∙ c))

  turn : (p : ℕ) → p < length places → IsTurn places (slice_index other) t p
  turn p l =
      let twins = drawn.twins p l in
      let in_twin = twin_within places p (t p) twins in
      elim twins [
        | edge_down h ↦
            let at = drawn.one.close_of p (slice_index other p) (t p) (drawn.bracketing.of_open p h.opens) h in
            let back = drawn.one.open_of (slice_index other (t p)) p (t p) (drawn.bracketing.of_close (t p) h.closes) h in
            bracket at back
        | edge_up h ↦
            let at = drawn.one.open_of (slice_index other p) (t p) p (drawn.bracketing.of_close p h.closes) h in
            let back = drawn.one.close_of (t p) (slice_index other (t p)) p (drawn.bracketing.of_open (t p) h.opens) h in
            bracket at back
        | pair_bud h ↦ letter_turn (λ e. differ p BUD OPEN h.bud e (omega arith)) (λ e. differ p BUD CLOSE h.bud e (omega arith))
            (own_letter p BUD h.bud l (omega arith) (omega arith)) (own_letter (t p) LEAF h.leaf in_twin (omega arith) (omega arith))
        | pair_leaf h ↦ letter_turn (λ e. differ p LEAF OPEN h.leaf e (omega arith)) (λ e. differ p LEAF CLOSE h.leaf e (omega arith))
            (own_letter p LEAF h.leaf l (omega arith) (omega arith)) (own_letter (t p) BUD h.bud in_twin (omega arith) (omega arith))
        | free_leaves f g ne ↦ letter_turn (λ e. differ p LEAF OPEN f.leaf e (omega arith)) (λ e. differ p LEAF CLOSE f.leaf e (omega arith))
            (own_letter p LEAF f.leaf l (omega arith) (omega arith)) (own_letter (t p) LEAF g.leaf in_twin (omega arith) (omega arith))
      ] where
        differ : (p x y : ℕ) → slice_index places p ≡ x → slice_index places p ≡ y → x ≢ y → ⊥
        differ p x y a b ne = ne (sym a ∙ b)

  -- the place across the twin: the twin of a letter, and a bracket itself
  partner : ℕ → ℕ
  partner p = slice_index other (t p)

  -- brackets are nested
  brackets_involution : IsInvolutionBelow (length places) (slice_index other)
  brackets_involution = record { stays = λ k l. other_below places other k drawn.bracketing l; twice = λ k l. other_twice places other k drawn.bracketing l }

  bracket_before : (p : ℕ) → p < length places → p < slice_index other p → IsBracketPair places p (slice_index other p)
  bracket_before p l less = elim (cases_eq (slice_index places p) OPEN) [
    | inl o ↦ drawn.bracketing.of_open p o
    | inr no_open ↦ elim (cases_eq (slice_index places p) CLOSE) [
      | inl c ↦ absurd (later p (slice_index other p) less (drawn.bracketing.of_close p c))
      | inr no_close ↦ absurd (same p (slice_index other p) less (drawn.bracketing.of_letter p l no_open no_close))
    ]
  ] where
    later : (p q : ℕ) → p < q → IsBracketPair places q p → ⊥
    later p q less h = let b = h.before in omega arith

    same : (p q : ℕ) → p < q → q ≡ p → ⊥
    same p q less e = omega arith

  record IsBetween (p q r : ℕ) : Type 0 where
    above : p < r
    below : r < q

  brackets_nest : (p r : ℕ) → slice_index other p < length places → p < r → r < slice_index other p → IsBetween p (slice_index other p) (slice_index other r)
  brackets_nest p r l low high =
      let outer = bracket_before p (omega arith) (omega arith) in
      elim (cases_eq (slice_index places r) OPEN) [
        | inl o ↦
            let inner = drawn.bracketing.of_open r o in
            let b = inner.before in
            record { above = omega arith; below = opens_inside places p (slice_index other p) r (slice_index other r) outer inner low high }
        | inr no_open ↦ elim (cases_eq (slice_index places r) CLOSE) [
          | inl c ↦
              let inner = drawn.bracketing.of_close r c in
              let b = inner.before in
              record { above = closes_inside places p (slice_index other p) (slice_index other r) r outer inner low high; below = omega arith }
          | inr no_close ↦
              let e = drawn.bracketing.of_letter r (omega arith) no_open no_close in
              record { above = omega (arith, e); below = omega (arith, e) }
        ]
      ]

  brackets_nested : IsNestedBelow (length places) (slice_index other)
  brackets_nested = record {
    above = λ p r l low high. (brackets_nest p r l low high).above;
    below = λ p r l low high. (brackets_nest p r l low high).below;
  }

  -- pairs are nested, with the plant and the other free leaf as one more
  partner_letter : (p : ℕ) → p < length places → partner p ≢ p → partner p ≡ t p
  unfolding partner
  partner_letter p l moves = elim (turn p l) [
    | bracket at back ↦ absurd (moves back)
    | letter_turn _ _ at back ↦ back
  ]

  partner_bracket : (p : ℕ) → p < length places → (slice_index places p ≡ OPEN) ⊎ (slice_index places p ≡ CLOSE) → partner p ≡ p
  unfolding partner
  partner_bracket p l is = elim (turn p l) [
    | bracket at back ↦ back
    | letter_turn no_open no_close _ _ ↦ elim is [ inl o ↦ absurd (no_open o) | inr c ↦ absurd (no_close c) ]
  ]

  partner_involution : IsInvolutionBelow (length places) partner
  unfolding partner
  partner_involution = record {
    stays = λ k l. other_below places other (t k) drawn.bracketing (twinning.stays k l);
    twice = λ k l. elim (turn k l) [
      | bracket at back ↦ ap (λ (q : ℕ). slice_index other (t q)) back ∙ back
      | letter_turn _ _ at back ↦ ap (λ (q : ℕ). slice_index other (t q)) back ∙ ap (λ (q : ℕ). slice_index other q) (twinning.back k l) ∙ at
    ];
  }

  -- where a place between the two of a pair has its partner
  inside_pair : (p q r : ℕ) → IsMeeting places p q → r < length places → p < r → r < q → q < length places → IsBetween p q (partner r)
  unfolding partner
  inside_pair p q r outer l low high q_in = elim (turn r l) [
    | bracket at back ↦ record { above = omega (arith, back); below = omega (arith, back) }
    | letter_turn no_open no_close at back ↦ subst (λ (k : ℕ). IsBetween p q k) (sym back) (by_twin (drawn.twins r l) no_open no_close)
  ] where
    by_twin : AreTwins places r (t r) → (slice_index places r ≡ OPEN → ⊥) → (slice_index places r ≡ CLOSE → ⊥) → IsBetween p q (t r)
    by_twin twins no_open no_close = elim twins [
      | edge_down h ↦ absurd (no_open h.opens)
      | edge_up h ↦ absurd (no_close h.closes)
      | pair_bud h ↦
          let inner = straight places drawn.is_straight r (t r) h in
          let b = inner.before in
          record { above = omega arith; below = bud_inside places p q r (t r) outer inner low high }
      | pair_leaf h ↦
          let met = leaf_inside places p q r outer (letter-first places r l ∙ h.leaf) low high in
          let same = drawn.one.bud_of met.0 (t r) r (pair_first places met.0 r met.2 l) h in
          let b = (straight places drawn.is_straight (t r) r h).before in
          record { above = omega (arith, met.1, same); below = omega arith }
      | free_leaves f g ne ↦
          let met = leaf_inside places p q r outer (letter-first places r l ∙ f.leaf) low high in
          absurd (f.alone met.0 (pair_first places met.0 r met.2 l))
    ]

  inside_free : (f r : ℕ) → IsFree places f → f ≢ 0 → r < length places → f < length places → 0 < r → r < f → IsBetween 0 f (partner r)
  unfolding partner
  inside_free f r free apart l f_in low high = elim (turn r l) [
    | bracket at back ↦ record { above = omega (arith, back); below = omega (arith, back) }
    | letter_turn no_open no_close at back ↦ subst (λ (k : ℕ). IsBetween 0 f k) (sym back) (by_twin (drawn.twins r l) no_open no_close)
  ] where
    less_not : (r f : ℕ) → r < f → r ≡ f → ⊥
    less_not r f h e = omega arith

    zero_not : (r : ℕ) → 0 < r → 0 ≡ r → ⊥
    zero_not r h e = omega arith

    positive : (b : ℕ) → slice_index places b ≡ BUD → 0 < b
    positive zero e = absurd (omega (arith, e, drawn.is_straight.plant.leaf))
    positive (suc b) e = omega arith

    by_twin : AreTwins places r (t r) → (slice_index places r ≡ OPEN → ⊥) → (slice_index places r ≡ CLOSE → ⊥) → IsBetween 0 f (t r)
    by_twin twins no_open no_close = elim twins [
      | edge_down h ↦ absurd (no_open h.opens)
      | edge_up h ↦ absurd (no_close h.closes)
      | pair_bud h ↦
          let inner = straight places drawn.is_straight r (t r) h in
          let b = inner.before in
          record { above = omega arith; below = bud_before_free places f r (t r) free f_in inner high }
      | pair_leaf h ↦
          let b = (straight places drawn.is_straight (t r) r h).before in
          record { above = positive (t r) h.bud; below = omega arith }
      | free_leaves g other_free ne ↦ absurd (less_not r f high (drawn.one.third 0 r f drawn.is_straight.plant g free (λ e. zero_not r low e) (λ e. apart (sym e))))
    ]

  partners_nest : (p r : ℕ) → partner p < length places → p < r → r < partner p → IsBetween p (partner p) (partner r)
  partners_nest p r l low high =
      let p_in : p < length places = omega arith in
      let moved : partner p ≡ t p = partner_letter p p_in (λ e. moves p (partner p) r low high e) in
      let high_t : r < t p = omega (arith, moved) in
      let t_in : t p < length places = omega (arith, moved) in
      subst (λ (q : ℕ). IsBetween p q (partner r)) (sym moved) (by_twin (drawn.twins p p_in) high_t t_in moved) where
        moves : (p q r : ℕ) → p < r → r < q → q ≡ p → ⊥
        moves p q r a b e = omega arith

        not_after : (p q r : ℕ) → p < r → r < q → q < p → ⊥
        not_after p q r a b c = omega arith

        beyond : (p q r : ℕ) → p < r → r < q → q ≡ 0 → ⊥
        beyond p q r a b e = omega arith

        by_twin : AreTwins places p (t p) → r < t p → t p < length places → partner p ≡ t p → IsBetween p (t p) (partner r)
        by_twin twins high_t t_in moved = elim twins [
          | edge_down h ↦ absurd (moves p (partner p) r low high (partner_bracket p (omega arith) (inl h.opens)))
          | edge_up h ↦ absurd (moves p (partner p) r low high (partner_bracket p (omega arith) (inr h.closes)))
          | pair_bud h ↦ inside_pair p (t p) r (straight places drawn.is_straight p (t p) h) (omega arith) low high_t t_in
          | pair_leaf h ↦ absurd (not_after p (t p) r low high_t ((straight places drawn.is_straight (t p) p h).before))
          | free_leaves f g ne ↦ elim (cases_eq p 0) [
            | inl root ↦ subst (λ (k : ℕ). IsBetween k (t p) (partner r)) (sym root)
                (inside_free (t p) r g (λ e. ne (root ∙ sym e)) (omega arith) t_in (omega arith) high_t)
            | inr away ↦ absurd (moves p (t p) r low high_t (sym (drawn.one.third 0 p (t p) drawn.is_straight.plant f g (λ e. away (sym e)) (λ e. beyond p (t p) r low high_t (sym e)))))
          ]
        ]

  partners_nested : IsNestedBelow (length places) partner
  partners_nested = record {
    above = λ p r l low high. (partners_nest p r l low high).above;
    below = λ p r l low high. (partners_nest p r l low high).below;
  }

  -- the ring of places
  ring : ℕ → ℕ
  ring k = suc k % length places

  is_ring : 0 < length places → IsRingBelow (length places) ring
  unfolding ring
  is_ring some = record { next = λ k l. succ_inside k (length places) l; last = λ k e. ap (λ (m : ℕ). m % length places) e ∙ succ_last (length places) some }

  -- half of the places are the later ends of edges: of brackets and of pairs
  pairs_half : 2 * (pairs (length places) (slice_index other) + pairs (length places) partner) ≡ length places
  unfolding partner
  pairs_half =
      let second : ℕ → Bool = λ k. ltb (t k) k in
      let both = count_below-split (λ k. ltb (slice_index other k) k) (λ k. ltb (slice_index other (t k)) k) (λ k. ltb (t k) k) (length places) (λ k l. one_of k l) in
      let parts = count_below-parts (λ k. ltb k (t k)) (λ k. ltb (t k) k) (length places) (λ k l. apart k (t k) (twinning.other k l)) in
      omega (arith, both, parts, firsts_half (length places) t twinning, firsts_is t (length places)) where
        apart : (k q : ℕ) → q ≢ k → ltb k q ≡ not (ltb q k)
        apart k q ne = elim (cases_lt k q) [
          | inl h ↦ lt-ltb k q h ∙ sym (ap not (le-ltb q k (omega arith)))
          | inr h ↦ let less : q < k = omega arith in le-ltb k q h ∙ sym (ap not (lt-ltb q k less))
        ]

        one_of : (k : ℕ) → k < length places → ((ltb (slice_index other k) k ≡ ltb (t k) k) × (ltb (slice_index other (t k)) k ≡ false)) ⊎ ((ltb (slice_index other k) k ≡ false) × (ltb (slice_index other (t k)) k ≡ ltb (t k) k))
        one_of k l = elim (turn k l) [
          | bracket at back ↦ inl (ap (λ (q : ℕ). ltb q k) at, ap (λ (q : ℕ). ltb q k) back ∙ le-ltb k k (omega arith))
          | letter_turn _ _ at back ↦ inr (ap (λ (q : ℕ). ltb q k) at ∙ le-ltb k k (omega arith), ap (λ (q : ℕ). ltb q k) back)
        ]

  -- vertices and faces are two more than edges
  euler_on_places : (next : ℕ → ℕ) → 0 < length places → ((p : ℕ) → p < length places → next p ≡ suc (slice_index other p) % length places)
      → cycles (length places) next + cycles (length places) (λ p. next (t p)) ≡ length places / 2 + 2
  unfolding partner ring
  euler_on_places next some rotation =
      let vertices = cycles-nested (length places) next ring (slice_index other) some (is_ring some) brackets_involution (record { value = rotation }) brackets_nested in
      let faces = cycles-nested (length places) (λ p. next (t p)) ring partner some (is_ring some) partner_involution (record { value = λ p l. rotation (t p) (twinning.stays p l) }) partners_nested in
      omega (arith, vertices, faces, pairs_half)

-- the closure on places has Euler characteristic 2
pub closure_euler : (word : List ℕ) (closure : Structure) → IsBlossoming word → IsBalanced (contour word) → IsClosure (contour word) closure → HasEulerTwo closure
closure_euler word closure tree balanced is =
    let bracketing = bracketing_exists word tree.in_order in
    let drawn : IsDrawn (contour word) bracketing.0 closure.twin = record {
      bracketing = bracketing.1;
      one = (has_across word tree).one;
      twins = is.twins;
      is_straight = record { surplus = surplus_from (contour word) (two_more_leaves word tree); plant = balanced };
    } in
    let euler = euler_on_places (contour word) bracketing.0 closure.twin drawn closure.next (omega arith)
    (λ p l. is.rotation p (slice_index bracketing.0 p) l (bracketing_across (contour word) bracketing.0 bracketing.1 p l)) in
    counted closure (length (contour word)) is.darts (omega arith) euler where
      counted : (s : Structure) (n : ℕ) → s.darts ≡ n → 0 < n → cycles n s.next + cycles n (λ p. s.next (s.twin p)) ≡ n / 2 + 2 → HasEulerTwo s
      counted s n e some euler = by_darts s (subst (λ (m : ℕ). cycles m s.next + cycles m (λ p. s.next (s.twin p)) ≡ m / 2 + 2) (sym e) euler) (omega arith) where
        by_darts : (s : Structure) → cycles s.darts s.next + cycles s.darts (λ p. s.next (s.twin p)) ≡ s.darts / 2 + 2 → 0 < s.darts → HasEulerTwo s
        by_darts s euler some =
            let test : eqb s.darts 0 ≡ false = ne_eqb s.darts 0 (not_none s some) in
            subst (λ (b : Bool). cond b 1 (cycles s.darts s.next) + cond b 1 (cycles s.darts (face_next s)) ≡ s.darts / 2 + 2) (sym test) euler where
              not_none : (s : Structure) → 0 < s.darts → s.darts ≢ 0
              not_none s some e = omega arith
