-- Each contour with two more leaves than buds has a pairing: read it in two turns.
use Rattle.std.proofs.Common.{◌≡◌, ◌≢◌, ℕ, zero, suc, ◌+◌, ◌-◌, ◌<◌, ◌≤◌, inl, inr, ◌⊎◌, List, [], ◌∷◌, ◌++◌, length, take, refl, sym, ◌∙◌, arith}
use Rattle.std.specs.Prelude.{slice_index}
use Rattle.std.proofs.lemmas.Bool.{cases_lt, cases_eq}
use Rattle.pm_trees.specs.declared.letters.TheConstants.{LEAF, BUD}
use Rattle.pm_brackets.specs.Word.{count}
use Rattle.pm_trees.specs.Word.{contour}
use Rattle.pm_match.specs.Pair.{IsFree}
use Rattle.pm_match.specs.Pairing.{Pairs, IsPairing}
use Rattle.pm_match.specs.steps.Waiting.{with_leaf, top_of}
use Rattle.pm_match.proofs.Counts.{HasSurplus, surplus_from}
use Rattle.pm_match.proofs.Turns.{IsFirstTurn, first_none, first_bud, first_meet, first_loose, first_other}
use Rattle.pm_match.proofs.Completing.{IsSecondTurn, second_none, second_bud, second_inner_leaf, second_meet, second_loose, second_other, found}
use Rattle.pm_match.proofs.Steps.{done}

-- the state before place i of the first turn
record HasFirst (places : List ℕ) (i : ℕ) : Type 0 where
  pairs : List (ℕ × ℕ)
  stack : List ℕ
  state : IsFirstTurn places i pairs stack

first_at_leaf : (places : List ℕ) (i : ℕ) → i < length places → slice_index places i ≡ LEAF → HasFirst places i → HasFirst places (suc i)
first_at_leaf places i i_in e h =
    elim (cases_lt 0 (length h.stack)) [
      | inl some ↦ record {
        pairs = with_leaf h.pairs (top_of h.stack) i;
        stack = take (length h.stack - 1) h.stack;
        state = first_meet places i h.pairs h.stack i_in e some h.state;
      }
      | inr none ↦ record {
        pairs = h.pairs;
        stack = h.stack;
        state = first_loose places i h.pairs h.stack i_in e (omega arith) h.state;
      }
    ]

first_step : (places : List ℕ) (i : ℕ) → i < length places → HasFirst places i → HasFirst places (suc i)
first_step places i i_in h =
    elim (cases_eq (slice_index places i) BUD) [
      | inl bud ↦ record {
        pairs = h.pairs ++ (i, 0) ∷ [];
        stack = h.stack ++ length h.pairs ∷ [];
        state = first_bud places i h.pairs h.stack i_in bud h.state;
      }
      | inr no_bud ↦ elim (cases_eq (slice_index places i) LEAF) [
        | inl leaf ↦ first_at_leaf places i i_in leaf h
        | inr no_leaf ↦ record {
          pairs = h.pairs;
          stack = h.stack;
          state = first_other places i h.pairs h.stack i_in no_bud no_leaf h.state;
        }
      ]
    ]

first_turn : (places : List ℕ) (i : ℕ) → i ≤ length places → HasFirst places i
first_turn places zero within = record { pairs = []; stack = []; state = first_none places }
first_turn places (suc i) within = first_step places i (omega arith) (first_turn places i (omega arith))

-- the state before place q of the second turn, which began with so many pairs that waited
record HasSecond (places : List ℕ) (waited q : ℕ) : Type 0 where
  pairs : List (ℕ × ℕ)
  stack : List ℕ
  inner : ℕ
  free : List ℕ
  state : IsSecondTurn places waited q pairs stack inner free

second_at_leaf : (places : List ℕ) (waited q : ℕ) (pairs : List (ℕ × ℕ)) (stack : List ℕ) (inner : ℕ) (free : List ℕ) → HasSurplus places → q < length places → slice_index places q ≡ LEAF → IsSecondTurn places waited q pairs stack inner free → HasSecond places waited (suc q)
second_at_leaf places waited q pairs stack zero free s q_in e h =
    elim (cases_lt 0 (length stack)) [
      | inl some ↦ record {
        pairs = with_leaf pairs (top_of stack) q;
        stack = take (length stack - 1) stack;
        inner = 0;
        free = free;
        state = second_meet places waited q pairs stack free s q_in e some h;
      }
      | inr none ↦ record {
        pairs = pairs;
        stack = stack;
        inner = 0;
        free = free ++ q ∷ [];
        state = second_loose places waited q pairs stack free e (omega arith) h;
      }
    ]
second_at_leaf places waited q pairs stack (suc inner) free s q_in e h = record {
  pairs = pairs;
  stack = stack;
  inner = inner;
  free = free;
  state = second_inner_leaf places waited q pairs stack inner free s q_in e h;
}

second_step : (places : List ℕ) (waited q : ℕ) → HasSurplus places → q < length places → HasSecond places waited q → HasSecond places waited (suc q)
second_step places waited q s q_in h =
    elim (cases_eq (slice_index places q) BUD) [
      | inl bud ↦ record {
        pairs = h.pairs;
        stack = h.stack;
        inner = suc h.inner;
        free = h.free;
        state = second_bud places waited q h.pairs h.stack h.inner h.free bud h.state;
      }
      | inr no_bud ↦ elim (cases_eq (slice_index places q) LEAF) [
        | inl leaf ↦ second_at_leaf places waited q h.pairs h.stack h.inner h.free s q_in leaf h.state
        | inr no_leaf ↦ record {
          pairs = h.pairs;
          stack = h.stack;
          inner = h.inner;
          free = h.free;
          state = second_other places waited q h.pairs h.stack h.inner h.free q_in no_bud no_leaf h.state;
        }
      ]
    ]

second_turn : (places : List ℕ) (pairs : List (ℕ × ℕ)) (stack : List ℕ) (q : ℕ) → HasSurplus places → IsFirstTurn places (length places) pairs stack → q ≤ length places → HasSecond places (length stack) q
second_turn places pairs stack zero s first within = record { pairs = pairs; stack = stack; inner = 0; free = []; state = second_none places pairs stack first }
second_turn places pairs stack (suc q) s first within = second_step places (length stack) q s (omega arith) (second_turn places pairs stack q s first (omega arith))

-- a contour with two more leaves than buds has its pairing
pub pairing_exists : (word : List ℕ) → count LEAF (contour word) ≡ count BUD (contour word) + 2 → (pairing : Pairs) × IsPairing (contour word) pairing
pairing_exists word s =
    let one = first_turn (contour word) (length (contour word)) (omega arith) in
    let two = second_turn (contour word) one.pairs one.stack (length (contour word)) (surplus_from (contour word) s) one.state (omega arith) in
    let end = done word (length (contour word)) (length (contour word)) one.pairs two.pairs one.stack two.stack two.inner two.free s refl refl one.state two.state in
    (found two.pairs two.free, end.pairing)

same_of_two : (a b p q r : ℕ) → (p ≡ a) ⊎ (p ≡ b) → (q ≡ a) ⊎ (q ≡ b) → (r ≡ a) ⊎ (r ≡ b) → p ≢ q → p ≢ r → q ≡ r
same_of_two a b p q r (inl e) (inl f) g n m = absurd (n (e ∙ sym f))
same_of_two a b p q r (inl e) (inr f) (inl g) n m = absurd (m (e ∙ sym g))
same_of_two a b p q r (inl e) (inr f) (inr g) n m = f ∙ sym g
same_of_two a b p q r (inr e) (inl f) (inl g) n m = f ∙ sym g
same_of_two a b p q r (inr e) (inl f) (inr g) n m = absurd (m (e ∙ sym g))
same_of_two a b p q r (inr e) (inr f) g n m = absurd (n (e ∙ sym f))

-- it has no three free leaves
pub at_most_two_free : (word : List ℕ) → count LEAF (contour word) ≡ count BUD (contour word) + 2 → (p q r : ℕ) → IsFree (contour word) p → IsFree (contour word) q → IsFree (contour word) r → p ≢ q → p ≢ r → q ≡ r
at_most_two_free word s p q r p_free q_free r_free n m =
    let pairing = pairing_exists word s in
    let each = pairing.1.free.no_third in
    same_of_two pairing.0.first_free pairing.0.second_free p q r (each p p_free) (each q q_free) (each r r_free) n m
