-- The two kinds of edges of a balanced contour: brackets, and pairs with the plant and the other free leaf.
use Rattle.std.proofs.Common.{◌≡◌, ◌≢◌, ℕ, ◌<◌, ◌⊎◌, inl, inr, List, length, refl, sym, ◌∙◌, subst, arith}
use Rattle.std.specs.Prelude.{slice_index}
use Rattle.std.proofs.lemmas.Bool.{cases_eq}
use Rattle.pm_trees.specs.declared.letters.TheConstants.{LEAF, BUD}
use Rattle.pm_brackets.specs.declared.letters.TheConstants.{OPEN, CLOSE}
use Rattle.pm_brackets.proofs.Nesting.{opens_inside}
use Rattle.pm_match.specs.Pair.{IsFree}
use Rattle.pm_match.proofs.Straight.{IsStraight, straight, bud_inside, bud_before_free}
use Rattle.pm_map.specs.EdgeNumbers.{IsTwinning}
use Rattle.pm_close.specs.Closure.{from_open, from_close, from_letter}
use Rattle.pm_close.proofs.ClosureLemmas.{IsLaidOut, laid_out_twins, across_unique}
use Rattle.pm_close.proofs.TwinLemmas.{by_letter, IsTwinByLetter}
use Rattle.pm_close.proofs.Unclosed.{IsKind}

-- a place where a child begins
abbrev pub BeginsChild : List ℕ → ℕ → Type 0
BeginsChild places p = slice_index places p ≡ OPEN

-- a place that waits for a leaf: the plant, and each bud
abbrev pub AwaitsLeaf : List ℕ → ℕ → Type 0
AwaitsLeaf places p = (p ≡ 0) ⊎ (slice_index places p ≡ BUD)

-- a balanced contour with the place across and the twin of each place
pub record IsStraightLayout (places : List ℕ) (across t : ℕ → ℕ) : Type 0 where
  pub layout : IsLaidOut places across t
  pub is_straight : IsStraight places

module _ (places : List ℕ) (across t : ℕ → ℕ) (drawn : IsStraightLayout places across t) where
  pub twinning : IsTwinning (length places) t
  twinning = laid_out_twins places across t drawn.layout

  twin_at : (p : ℕ) → p < length places → IsTwinByLetter places p (t p)
  twin_at p l = by_letter places p (t p) (drawn.layout.are_twins p l)

  -- a bud stands before its leaf, and the plant before the other free leaf
  bud_ahead : (p : ℕ) → p < length places → slice_index places p ≡ BUD → p < t p
  bud_ahead p l e = (straight places drawn.is_straight p (t p) ((twin_at p l).at_bud e)).before

  record IsOtherFree (q : ℕ) : Type 0 where
    free : IsFree places q
    apart : q ≢ 0

  plant_twin : 0 < length places → IsOtherFree (t 0)
  plant_twin some = elim ((twin_at 0 some).at_leaf drawn.is_straight.plant.leaf) [
    | inl pair ↦ absurd (drawn.is_straight.plant.alone (t 0) pair)
    | inr both ↦ record { free = both.1; apart = λ e. both.2 (sym e) }
  ]

  children_ahead : (p : ℕ) → p < length places → BeginsChild places p → p < t p
  children_ahead p l e = ((twin_at p l).at_open e).before

  waiting_ahead : (p : ℕ) → p < length places → AwaitsLeaf places p → p < t p
  waiting_ahead p l is = elim is [
    | inl e ↦ let other = plant_twin (omega arith) in subst (λ (q : ℕ). q < t q) (sym e) (positive (t 0) other.apart)
    | inr e ↦ bud_ahead p l e
  ] where
    positive : (q : ℕ) → q ≢ 0 → 0 < q
    positive q ne = omega arith

  pub children_kind : IsKind (BeginsChild places) t (length places)
  children_kind = record {
    ahead = children_ahead;
    back = twinning.back;
    nested = λ p r r_in opens later low high.
        opens_inside places p (t p) r (t r) ((twin_at p (omega arith)).at_open opens) ((twin_at r r_in).at_open later) low high;
  }

  waiting_nested : (p r : ℕ) → r < length places → AwaitsLeaf places p → AwaitsLeaf places r → p < r → r < t p → t r < t p
  waiting_nested p r r_in one other low high = elim other [
    | inl e ↦ absurd (omega arith)
    | inr bud ↦
        let inner = straight places drawn.is_straight r (t r) ((twin_at r r_in).at_bud bud) in
        elim one [
          | inl e ↦
              let free = plant_twin (omega arith) in
              let within : r < t 0 = subst (λ (q : ℕ). r < t q) e high in
              subst (λ (q : ℕ). t r < t q) (sym e) (bud_before_free places (t 0) r (t r) free.free (twinning.stays 0 (omega arith)) inner within)
          | inr first ↦ bud_inside places p (t p) r (t r) (straight places drawn.is_straight p (t p) ((twin_at p (omega arith)).at_bud first)) inner low high
        ]
  ]

  pub waiting_kind : IsKind (AwaitsLeaf places) t (length places)
  waiting_kind = record { ahead = waiting_ahead; back = twinning.back; nested = waiting_nested }

  -- two letters that differ
  differ : (p x y : ℕ) → x ≢ y → slice_index places p ≡ x → slice_index places p ≡ y → ⊥
  differ p x y ne a b = ne (sym a ∙ b)

  -- what a place is, by its letter: which kind of edge it begins or ends, and what is across
  pub record Begins (kind other : ℕ → Type 0) (p : ℕ) : Type 0 where
    pub here : kind p
    pub up : p < t p
    pub other_here : other p → ⊥
    pub other_there : other (t p) → ⊥

  pub record Ends (kind other : ℕ → Type 0) (p : ℕ) : Type 0 where
    pub there : kind (t p)
    pub down : t p < p
    pub other_here : other p → ⊥
    pub other_there : other (t p) → ⊥

  not_awaiting : (p x : ℕ) → 0 < p → x ≢ BUD → slice_index places p ≡ x → AwaitsLeaf places p → ⊥
  not_awaiting p x some ne e is = elim is [
    | inl root ↦ absurd (omega arith)
    | inr bud ↦ ne (sym e ∙ bud)
  ]

  pub at_open : (p : ℕ) → 0 < p → p < length places → slice_index places p ≡ OPEN → Begins (BeginsChild places) (AwaitsLeaf places) p
  at_open p some l e =
      let pair = (twin_at p l).at_open e in
      let b = pair.before in
      record {
        here = e;
        up = pair.before;
        other_here = not_awaiting p OPEN some (λ f. absurd (omega arith)) e;
        other_there = not_awaiting (t p) CLOSE (omega arith) (λ f. absurd (omega arith)) pair.closes;
      }

  pub at_close : (p : ℕ) → 0 < p → p < length places → slice_index places p ≡ CLOSE → Ends (BeginsChild places) (AwaitsLeaf places) p
  at_close p some l e =
      let pair = (twin_at p l).at_close e in
      record {
        there = pair.opens;
        down = pair.before;
        other_here = not_awaiting p CLOSE some (λ f. absurd (omega arith)) e;
        other_there = λ is. elim is [
          | inl root ↦ differ (t p) OPEN LEAF (λ f. absurd (omega arith)) pair.opens (subst (λ (q : ℕ). slice_index places q ≡ LEAF) (sym root) drawn.is_straight.plant.leaf)
          | inr bud ↦ differ (t p) OPEN BUD (λ f. absurd (omega arith)) pair.opens bud
        ];
      }

  pub at_bud : (p : ℕ) → p < length places → slice_index places p ≡ BUD → Begins (AwaitsLeaf places) (BeginsChild places) p
  at_bud p l e =
      let pair = (twin_at p l).at_bud e in
      record {
        here = inr e;
        up = bud_ahead p l e;
        other_here = differ p BUD OPEN (λ f. absurd (omega arith)) e;
        other_there = differ (t p) LEAF OPEN (λ f. absurd (omega arith)) pair.leaf;
      }

  pub at_leaf : (p : ℕ) → 0 < p → p < length places → slice_index places p ≡ LEAF → Ends (AwaitsLeaf places) (BeginsChild places) p
  at_leaf p some l e = elim ((twin_at p l).at_leaf e) [
    | inl pair ↦ record {
      there = inr pair.bud;
      down = (straight places drawn.is_straight (t p) p pair).before;
      other_here = differ p LEAF OPEN (λ f. absurd (omega arith)) e;
      other_there = differ (t p) BUD OPEN (λ f. absurd (omega arith)) pair.bud;
    }
    | inr both ↦
        let root : t p ≡ 0 = other_is_plant p (t p) some both.0 both.1 both.2 in
        record {
          there = inl root;
          down = omega arith;
          other_here = differ p LEAF OPEN (λ f. absurd (omega arith)) e;
          other_there = differ (t p) LEAF OPEN (λ f. absurd (omega arith)) both.1.leaf;
        }
  ] where
    other_is_plant : (p q : ℕ) → 0 < p → IsFree places p → IsFree places q → p ≢ q → q ≡ 0
    other_is_plant p q some f g ne = elim (cases_eq q 0) [
      | inl e ↦ e
      | inr away ↦ absurd (ne (drawn.layout.one.third 0 p q drawn.is_straight.plant f g (λ e. absurd (omega arith)) (λ e. away (sym e))))
    ]

  -- the place across
  pub across_bracket : (p : ℕ) → p < length places → (slice_index places p ≡ OPEN) ⊎ (slice_index places p ≡ CLOSE) → across p ≡ t p
  across_bracket p l is = across_unique places p (across p) (t p) drawn.layout.one (drawn.layout.is_across p l) (elim is [
    | inl e ↦ from_open ((twin_at p l).at_open e)
    | inr e ↦ from_close ((twin_at p l).at_close e)
  ])

  pub across_letter : (p : ℕ) → p < length places → slice_index places p ≢ OPEN → slice_index places p ≢ CLOSE → across p ≡ p
  across_letter p l no_open no_close = across_unique places p (across p) p drawn.layout.one (drawn.layout.is_across p l) (from_letter no_open no_close refl)
