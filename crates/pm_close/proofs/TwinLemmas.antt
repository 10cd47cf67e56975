-- Each place of a contour has at most one twin, and is its twin's twin.
use Rattle.std.proofs.Common.{◌≡◌, ◌≢◌, ℕ, ◌<◌, ◌⊎◌, inl, inr, List, length, sym, ◌∙◌, subst, lit<, arith}
use Rattle.std.specs.Prelude.{slice_index}
use Rattle.std.proofs.lemmas.Bool.{cases_lt}
use Rattle.std.proofs.lemmas.List.{get_or_past}
use Rattle.pm_trees.specs.declared.letters.TheConstants.{LEAF, BUD}
use Rattle.pm_brackets.specs.declared.letters.TheConstants.{OPEN, CLOSE}
use Rattle.pm_brackets.specs.Word.{IsBracketPair}
use Rattle.pm_match.specs.Pair.{IsPair, IsFree}
use Rattle.pm_close.specs.Closure.{AreTwins, edge_down, edge_up, pair_bud, pair_leaf, free_leaves}

-- the other end of a bracket or of a pair is one place
pub record HasOnePartner (places : List ℕ) : Type 0 where
  pub close_of : (p q r : ℕ) → IsBracketPair places p q → IsBracketPair places p r → q ≡ r
  pub open_of : (p q r : ℕ) → IsBracketPair places p r → IsBracketPair places q r → p ≡ q
  pub leaf_of : (p q r : ℕ) → IsPair places p q → IsPair places p r → q ≡ r
  pub bud_of : (p q r : ℕ) → IsPair places p r → IsPair places q r → p ≡ q
  pub third : (p q r : ℕ) → IsFree places p → IsFree places q → IsFree places r → p ≢ q → p ≢ r → q ≡ r

-- a place where a letter stands is a place of the contour
pub within : (places : List ℕ) (p letter : ℕ) → 0 < letter → slice_index places p ≡ letter → p < length places
within places p letter some e = elim (cases_lt p (length places)) [ inl h ↦ h | inr h ↦ absurd (omega (arith, get_or_past places p 0 h)) ]

-- what the letter of a place says of its twin
pub record IsTwinByLetter (places : List ℕ) (p q : ℕ) : Type 0 where
  pub at_open : slice_index places p ≡ OPEN → IsBracketPair places p q
  pub at_close : slice_index places p ≡ CLOSE → IsBracketPair places q p
  pub at_bud : slice_index places p ≡ BUD → IsPair places p q
  pub at_leaf : slice_index places p ≡ LEAF → IsPair places q p ⊎ (IsFree places p × IsFree places q × (p ≢ q))

-- no two letters stand at one place
pub two_letters : {A : Type 0} (places : List ℕ) (p x y : ℕ) → x ≢ y → slice_index places p ≡ x → slice_index places p ≡ y → A
two_letters places p x y ne one two = absurd (ne (sym one ∙ two))

pub by_letter : (places : List ℕ) (p q : ℕ) → AreTwins places p q → IsTwinByLetter places p q
by_letter places p q twins = elim twins [
  | edge_down h ↦ record {
    at_open = λ _. h;
    at_close = λ e. two_letters places p OPEN CLOSE (omega arith) h.opens e;
    at_bud = λ e. two_letters places p OPEN BUD (omega arith) h.opens e;
    at_leaf = λ e. two_letters places p OPEN LEAF (omega arith) h.opens e;
  }
  | edge_up h ↦ record {
    at_open = λ e. two_letters places p CLOSE OPEN (omega arith) h.closes e;
    at_close = λ _. h;
    at_bud = λ e. two_letters places p CLOSE BUD (omega arith) h.closes e;
    at_leaf = λ e. two_letters places p CLOSE LEAF (omega arith) h.closes e;
  }
  | pair_bud h ↦ record {
    at_open = λ e. two_letters places p BUD OPEN (omega arith) h.bud e;
    at_close = λ e. two_letters places p BUD CLOSE (omega arith) h.bud e;
    at_bud = λ _. h;
    at_leaf = λ e. two_letters places p BUD LEAF (omega arith) h.bud e;
  }
  | pair_leaf h ↦ record {
    at_open = λ e. two_letters places p LEAF OPEN (omega arith) h.leaf e;
    at_close = λ e. two_letters places p LEAF CLOSE (omega arith) h.leaf e;
    at_bud = λ e. two_letters places p LEAF BUD (omega arith) h.leaf e;
    at_leaf = λ _. inl h;
  }
  | free_leaves f g ne ↦ record {
    at_open = λ e. two_letters places p LEAF OPEN (omega arith) f.leaf e;
    at_close = λ e. two_letters places p LEAF CLOSE (omega arith) f.leaf e;
    at_bud = λ e. two_letters places p LEAF BUD (omega arith) f.leaf e;
    at_leaf = λ _. inr (f, g, ne);
  }
]

-- a place has one twin
pub twin_unique : (places : List ℕ) (p q r : ℕ) → HasOnePartner places → AreTwins places p q → AreTwins places p r → q ≡ r
twin_unique places p q r one twins others =
    let other = by_letter places p r others in
    elim twins [
      | edge_down h ↦ one.close_of p q r h (other.at_open h.opens)
      | edge_up h ↦ one.open_of q r p h (other.at_close h.closes)
      | pair_bud h ↦ one.leaf_of p q r h (other.at_bud h.bud)
      | pair_leaf h ↦ elim (other.at_leaf h.leaf) [ inl k ↦ one.bud_of q r p h k | inr f ↦ absurd (f.0.alone q h) ]
      | free_leaves f g ne ↦ elim (other.at_leaf f.leaf) [ inl k ↦ absurd (f.alone r k) | inr e ↦ one.third p q r f g e.1 ne e.2 ]
    ]

-- twins are each other's
pub twins_back : (places : List ℕ) (p q : ℕ) → AreTwins places p q → AreTwins places q p
twins_back places p q twins = elim twins [
  | edge_down h ↦ edge_up h
  | edge_up h ↦ edge_down h
  | pair_bud h ↦ pair_leaf h
  | pair_leaf h ↦ pair_bud h
  | free_leaves f g ne ↦ free_leaves g f (λ e. ne (sym e))
]

-- no place is its own twin
pub twins_apart : (places : List ℕ) (p q : ℕ) → AreTwins places p q → p ≢ q
twins_apart places p q twins e = elim twins [
  | edge_down h ↦ differ p q h.before e
  | edge_up h ↦ differ q p h.before (sym e)
  | pair_bud h ↦ two_letters places p BUD LEAF (omega arith) h.bud (subst (λ (k : ℕ). slice_index places k ≡ LEAF) (sym e) h.leaf)
  | pair_leaf h ↦ two_letters places p LEAF BUD (omega arith) h.leaf (subst (λ (k : ℕ). slice_index places k ≡ BUD) (sym e) h.bud)
  | free_leaves f g ne ↦ ne e
] where
  differ : (p q : ℕ) → p < q → p ≡ q → ⊥
  differ p q h e = omega arith

-- a twin is a place of the contour
pub twin_within : (places : List ℕ) (p q : ℕ) → AreTwins places p q → q < length places
twin_within places p q twins = elim twins [
  | edge_down h ↦ within places q CLOSE (lit< tt) h.closes
  | edge_up h ↦ within places q OPEN (lit< tt) h.opens
  | pair_bud h ↦ within places q LEAF (lit< tt) h.leaf
  | pair_leaf h ↦ within places q BUD (lit< tt) h.bud
  | free_leaves f g ne ↦ within places q LEAF (lit< tt) g.leaf
]
