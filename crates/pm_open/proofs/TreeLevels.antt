-- The levels of the places of a balanced contour: from one place to the next, and across an edge.
use Rattle.std.proofs.Common.{◌≡◌, ◌≢◌, ℕ, zero, suc, ◌+◌, ◌-◌, ◌%◌, ◌<◌, ◌≤◌, ◌⊎◌, inl, inr, List, length, take, drop, refl, sym, ap, ◌∙◌, subst, arith, length-drop}
use Rattle.std.specs.Prelude.{slice_index}
use Rattle.std.proofs.lemmas.Bool.{cases_lt, cases_eq}
use Rattle.std.proofs.lemmas.List.{take-append-le, drop-append-le}
use Rattle.pm_trees.specs.declared.letters.TheConstants.{LEAF, BUD}
use Rattle.pm_brackets.specs.declared.letters.TheConstants.{OPEN, CLOSE}
use Rattle.pm_brackets.specs.Word.{count, between, IsBracketPair, IsBracketing}
use Rattle.pm_brackets.proofs.Levels.{inside}
use Rattle.pm_match.specs.Pair.{IsPair, IsFree, stretch}
use Rattle.pm_match.proofs.Counts.{letter, buds, leaves, letter-first, at_bud, at_leaf, at_other, start, stretched, leaf_within}
use Rattle.pm_match.proofs.Meeting.{IsMeeting, met_after, pair_first}
use Rattle.pm_match.proofs.Straight.{IsStraight, straight, low}
use Rattle.pm_close.specs.Closure.{AreTwins, edge_down, edge_up, pair_bud, pair_leaf, free_leaves}
use Rattle.pm_close.proofs.TwinLemmas.{HasOnePartner, twin_within}
use Rattle.pm_close.proofs.ClosureLemmas.{succ_inside, succ_last}

-- a balanced contour with the places across, the twins and the levels of its places
pub record IsMeasured (places other : List ℕ) (t level : ℕ → ℕ) : Type 0 where
  pub bracketing : IsBracketing places other
  pub one : HasOnePartner places
  pub twins : (p : ℕ) → p < length places → AreTwins places p (t p)
  pub is_straight : IsStraight places
  pub sums : (p q : ℕ) → IsBracketPair places p q → count LEAF (between places p q) ≡ count BUD (between places p q) + 1
  pub plant : level 0 ≡ 0
  pub later : (p : ℕ) → 0 < p → p < length places → level p + leaves places p ≡ buds places p + 2

-- the first and the last place of an edge: its two brackets, a bud with its leaf, or the plant with the other free leaf
pub data IsEdge (places other : List ℕ) (level : ℕ → ℕ) (p q : ℕ) : Type 0 where
  brackets : p < q → slice_index places p ≡ OPEN → slice_index places q ≡ CLOSE → slice_index other p ≡ q → slice_index other q ≡ p → level p ≡ suc (level q) → IsEdge places other level p q
  cut : p < q → (p ≡ 0) ⊎ (slice_index places p ≡ BUD) → slice_index places q ≡ LEAF → slice_index other p ≡ p → slice_index other q ≡ q → level q ≡ suc (level p) → IsEdge places other level p q

-- the letters between two places, in the two turns
between_stretch : (places : List ℕ) (p q : ℕ) → p < q → q ≤ length places → stretch places p (q - suc p) ≡ between places p q
between_stretch places p q l m =
    ap (take (q - suc p)) (drop-append-le (suc p) places places (omega arith))
    ∙ take-append-le (q - suc p) (drop (suc p) places) places (omega (arith, length-drop (suc p) places))

module _ (places other : List ℕ) (t level : ℕ → ℕ) (h : IsMeasured places other t level) where
  -- the level behind a place
  behind : (p : ℕ) → p < length places → level (suc p % length places) + leaves places (suc p) ≡ buds places (suc p) + 2
  behind p l = elim (cases_eq (suc p) (length places)) [
    | inl last ↦
        let round : suc p % length places ≡ 0 = ap (λ (k : ℕ). k % length places) last ∙ succ_last (length places) (omega arith) in
        omega (arith, ap level round, h.plant, ap (leaves places) last, ap (buds places) last, h.is_straight.surplus.surplus)
    | inr ne ↦
        let next : suc p % length places ≡ suc p = succ_inside p (length places) (omega arith) in
        omega (arith, ap level next, h.later (suc p) (omega arith) (omega arith))
  ]

  some : 0 < length places
  some = leaf_within places 0 h.is_straight.plant.leaf

  not_plant : (p x : ℕ) → slice_index places p ≡ x → x ≢ LEAF → 0 < p
  not_plant zero x e ne = absurd (ne (sym e ∙ h.is_straight.plant.leaf))
  not_plant (suc p) x e ne = omega arith

  -- behind a bracket the level is the same
  pub bracket_on : (p x : ℕ) → slice_index places p ≡ x → (x ≡ OPEN) ⊎ (x ≡ CLOSE) → p < length places → level (suc p % length places) ≡ level p
  bracket_on p x e is l =
      let bracket : (x ≢ BUD) × (x ≢ LEAF) = elim is [ inl o ↦ (λ b. absurd (omega arith), λ b. absurd (omega arith)) | inr c ↦ (λ b. absurd (omega arith), λ b. absurd (omega arith)) ] in
      let at : letter places p ≡ x = letter-first places p l ∙ e in
      let step = at_other places p (omega arith) (λ b. bracket.0 (sym at ∙ b)) (λ b. bracket.1 (sym at ∙ b)) in
      omega (arith, behind p l, h.later p (not_plant p x e bracket.1) l, step.more_buds, step.more_leaves)

  -- behind a bud it is one higher
  pub bud_on : (p : ℕ) → slice_index places p ≡ BUD → p < length places → level (suc p % length places) ≡ suc (level p)
  bud_on p e l =
      let step = at_bud places p (letter-first places p l ∙ e) in
      omega (arith, behind p l, h.later p (not_plant p BUD e (λ b. absurd (omega arith))) l, step.more_buds, step.more_leaves)

  -- behind the plant it is 1
  pub plant_on : level (suc 0 % length places) ≡ suc (level 0)
  plant_on =
      let step = at_leaf places 0 (letter-first places 0 some ∙ h.is_straight.plant.leaf) in
      let none = start places in
      omega (arith, behind 0 some, h.plant, step.more_buds, step.more_leaves, none.no_buds, none.no_leaves)

  -- behind another leaf it is one lower
  pub leaf_on : (p : ℕ) → slice_index places p ≡ LEAF → 0 < p → p < length places → suc (level (suc p % length places)) ≡ level p
  leaf_on p e positive l =
      let step = at_leaf places p (letter-first places p l ∙ e) in
      omega (arith, behind p l, h.later p positive l, step.more_buds, step.more_leaves)

  -- across an edge of the tree
  bracket_edge : (p q : ℕ) → IsBracketPair places p q → IsEdge places other level p q
  bracket_edge p q pair =
      let before = pair.before in
      let q_in : q < length places = inside places q CLOSE (omega arith) pair.closes in
      let step = at_other places p (omega arith) (λ b. not_open BUD b (λ e. absurd (omega arith))) (λ b. not_open LEAF b (λ e. absurd (omega arith))) in
      let all = stretched places p (q - suc p) in
      let same = between_stretch places p q before (omega arith) in
      let whole : suc p + (q - suc p) ≡ q = omega arith in
      let from = h.later p (not_plant p OPEN pair.opens (λ e. absurd (omega arith))) (omega arith) in
      let to = h.later q (omega arith) q_in in
      brackets before pair.opens pair.closes
      (h.one.close_of p (slice_index other p) q (h.bracketing.of_open p pair.opens) pair)
      (h.one.open_of (slice_index other q) p q (h.bracketing.of_close q pair.closes) pair)
      (omega (
        arith,
        from,
        to,
        step.more_buds,
        step.more_leaves,
        all.in_buds,
        all.in_leaves,
        ap (count LEAF) same,
        ap (count BUD) same,
        h.sums p q pair,
        ap (leaves places) whole,
        ap (buds places) whole,
      )) where
        not_open : (x : ℕ) → letter places p ≡ x → x ≢ OPEN → ⊥
        not_open x e ne = ne (sym e ∙ letter-first places p (let b = pair.before in omega (arith, inside places q CLOSE (omega arith) pair.closes)) ∙ pair.opens)

  own : (p x : ℕ) → slice_index places p ≡ x → x ≢ OPEN → x ≢ CLOSE → p < length places → slice_index other p ≡ p
  own p x e no_open no_close l = h.bracketing.of_letter p l (λ o. no_open (sym e ∙ o)) (λ c. no_close (sym e ∙ c))

  own_leaf : (p : ℕ) → slice_index places p ≡ LEAF → p < length places → slice_index other p ≡ p
  own_leaf p e l = own p LEAF e (λ o. absurd (omega arith)) (λ o. absurd (omega arith)) l

  -- from a bud to its leaf
  pair_edge : (p q : ℕ) → IsPair places p q → IsEdge places other level p q
  pair_edge p q pair =
      let meets : IsMeeting places p q = straight places h.is_straight p q pair in
      let before = meets.before in
      let q_in : q < length places = leaf_within places q pair.leaf in
      let step = at_bud places p meets.bud in
      let from = h.later p (not_plant p BUD pair.bud (λ e. absurd (omega arith))) (omega arith) in
      let to = h.later q (omega arith) q_in in
      cut before (inr pair.bud) pair.leaf (own p BUD pair.bud (λ o. absurd (omega arith)) (λ o. absurd (omega arith)) (omega arith)) (own_leaf q pair.leaf q_in)
      (omega (arith, from, to, step.more_buds, step.more_leaves, meets.level))

  -- from the plant to the other free leaf
  free_edge : (q : ℕ) → IsFree places q → 0 < q → IsEdge places other level 0 q
  free_edge q free positive =
      let q_in : q < length places = leaf_within places q free.leaf in
      let leaf : letter places q ≡ LEAF = letter-first places q q_in ∙ free.leaf in
      let step = at_leaf places q leaf in
      let first = at_leaf places 0 (letter-first places 0 some ∙ h.is_straight.plant.leaf) in
      let none = start places in
      let under = low places h.is_straight (suc q) (omega arith) in
      let to = h.later q positive q_in in
      let over : leaves places 1 + buds places q ≤ buds places 1 + leaves places q = elim (cases_lt (buds places 1 + leaves places q) (leaves places 1 + buds places q)) [
        | inl rise ↦ let met = met_after places q 1 leaf (omega arith) rise in absurd (free.alone met.0 (pair_first places met.0 q met.2 q_in))
        | inr fine ↦ fine
      ] in
      cut positive (inl refl) free.leaf (own_leaf 0 h.is_straight.plant.leaf some) (own_leaf q free.leaf q_in)
      (omega (arith, to, h.plant, step.more_buds, step.more_leaves, first.more_buds, first.more_leaves, none.no_buds, none.no_leaves, under, over))

  -- each place with its twin
  pub edge : (p : ℕ) → p < length places → IsEdge places other level p (t p) ⊎ IsEdge places other level (t p) p
  edge p l = elim (h.twins p l) [
    | edge_down pair ↦ inl (bracket_edge p (t p) pair)
    | edge_up pair ↦ inr (bracket_edge (t p) p pair)
    | pair_bud pair ↦ inl (pair_edge p (t p) pair)
    | pair_leaf pair ↦ inr (pair_edge (t p) p pair)
    | free_leaves free other_free ne ↦ elim (cases_eq p 0) [
      | inl root ↦ inl (subst (λ (k : ℕ). IsEdge places other level k (t p)) (sym root) (free_edge (t p) other_free (positive (t p) (λ e. ne (root ∙ sym e)))))
      | inr away ↦
          let back : t p ≡ 0 = h.one.third p (t p) 0 free other_free h.is_straight.plant ne away in
          inr (subst (λ (k : ℕ). IsEdge places other level k p) (sym back) (free_edge p free (positive p away)))
    ]
  ] where
    positive : (k : ℕ) → (k ≡ 0 → ⊥) → 0 < k
    positive k ne = omega arith

  -- around a face the level is the same
  pub level_around : (p : ℕ) → p < length places → level (suc (slice_index other (t p)) % length places) ≡ level p
  level_around p l =
      let t_in : t p < length places = twin_within places p (t p) (h.twins p l) in
      elim (edge p l) [
        | inl forward ↦ elim forward [
          | brackets before open_here _ at back higher ↦ on back (bracket_on p OPEN open_here (inl refl) l)
          | cut before first leaf at back higher ↦ on back (same (leaf_on (t p) leaf (omega arith) t_in) higher)
        ]
        | inr backward ↦ elim backward [
          | brackets before _ close_here at back higher ↦ on at (bracket_on p CLOSE close_here (inr refl) l)
          | cut before first leaf at back higher ↦ on at (elim first [
            | inl root ↦ subst (λ (k : ℕ). level (suc k % length places) ≡ level p) (sym root) (plant_on ∙ ap (λ (k : ℕ). suc (level k)) (sym root) ∙ sym higher)
            | inr bud ↦ bud_on (t p) bud t_in ∙ sym higher
          ])
        ]
      ] where
        on : {q r : ℕ} → slice_index other (t p) ≡ q → level (suc q % length places) ≡ r → level (suc (slice_index other (t p)) % length places) ≡ r
        on e f = ap (λ (k : ℕ). level (suc k % length places)) e ∙ f

        same : {a b c : ℕ} → suc a ≡ b → b ≡ suc c → a ≡ c
        same e f = omega arith
