-- The two turns along a contour: the first lists the pairs, the second gives the buds that still wait their leaves and
-- finds the free leaves.
use Rattle.std.proofs.Common.{◌≡◌, ◌≢◌, ℕ, suc, ◌-◌, ◌<◌, ◌≤◌, List, [], ◌∷◌, ◌++◌, length, take, refl, sym, ap, ◌∙◌, subst, ◌⊎◌, inl, inr, arith}
use Rattle.std.specs.Prelude.{slice_index}
use Rattle.std.proofs.lemmas.Bool.{cases_lt, cases_eq}
use Rattle.std.proofs.lemmas.List.{length_push, get_or_push, get_or_append_left}
use Rattle.pm_trees.specs.declared.letters.TheConstants.{LEAF, BUD}
use Rattle.pm_match.specs.Pair.{IsPair, IsFree}
use Rattle.pm_match.specs.steps.Waiting.{bud_at, with_leaf, top_of}
use Rattle.pm_match.proofs.Counts.{letter, letter-first}
use Rattle.pm_match.proofs.Meeting.{pair_first}
use Rattle.pm_match.proofs.Reading.{bud_at-push, bud_at-before, length-with_leaf, bud_at-with_leaf, open_meets, IsStacked, stacked_push, IsReading, reading_none, reading_bud, reading_meet, reading_loose, reading_other, top_within, top_opens}

-- the place of a bud's pair in the list
pub record IsListedBud (pairs : List (ℕ × ℕ)) (p : ℕ) : Type 0 where
  pub index : ℕ
  pub listed : index < length pairs
  pub same : bud_at pairs index ≡ p

-- the list has the pairs of the buds before place n, in rising order
pub record IsListed (places : List ℕ) (n : ℕ) (pairs : List (ℕ × ℕ)) : Type 0 where
  pub few : length pairs ≤ n
  pub before : (k : ℕ) → k < length pairs → bud_at pairs k < n
  pub rising : (j k : ℕ) → j < k → k < length pairs → bud_at pairs j < bud_at pairs k
  pub every : (p : ℕ) → p < n → slice_index places p ≡ BUD → IsListedBud pairs p

listed_none : (places : List ℕ) → IsListed places 0 []
listed_none places = record {
  few = omega arith;
  before = (λ k less. absurd (omega arith));
  rising = (λ j k less within. absurd (omega arith));
  every = (λ p less e. absurd (omega arith));
}

listed_bud : (places : List ℕ) (n : ℕ) (pairs : List (ℕ × ℕ)) → IsListed places n pairs → IsListed places (suc n) (pairs ++ (n, 0) ∷ [])
listed_bud places n pairs h =
    let few = h.few in
    let more : length (pairs ++ (n, 0) ∷ []) ≡ suc (length pairs) = omega (arith, length_push pairs (n, 0)) in
    let last : bud_at (pairs ++ (n, 0) ∷ []) (length pairs) ≡ n = bud_at-push pairs (n, 0) in
    record {
      few = omega arith;
      before = (λ k less. elim (cases_lt k (length pairs)) [
        | inl old ↦ omega (arith, bud_at-before pairs (n, 0) k old, h.before k old)
        | inr late ↦ let same : k ≡ length pairs = omega arith in
            omega (arith, ap (λ i. bud_at (pairs ++ (n, 0) ∷ []) i) same)
      ]);
      rising = (λ j k less within. elim (cases_lt k (length pairs)) [
        | inl old ↦ omega (arith, bud_at-before pairs (n, 0) k old, bud_at-before pairs (n, 0) j (omega arith), h.rising j k less old)
        | inr late ↦ let same : k ≡ length pairs = omega arith in
            omega (arith, ap (λ i. bud_at (pairs ++ (n, 0) ∷ []) i) same, bud_at-before pairs (n, 0) j (omega arith), h.before j (omega arith))
      ]);
      every = (λ p less e. elim (cases_eq p n) [
        | inl same ↦ record { index = length pairs; listed = omega arith; same = last ∙ sym same }
        | inr ne ↦ let old = h.every p (omega arith) e in
            let inside = old.listed in
            record { index = old.index; listed = omega arith; same = bud_at-before pairs (n, 0) old.index old.listed ∙ old.same }
      ]);
    }

listed_other : (places : List ℕ) (n : ℕ) (pairs : List (ℕ × ℕ)) → slice_index places n ≢ BUD → IsListed places n pairs → IsListed places (suc n) pairs
listed_other places n pairs no_bud h =
    let few = h.few in
    record {
      few = omega arith;
      before = (λ k less. omega (arith, h.before k less));
      rising = h.rising;
      every = (λ p less e. elim (cases_eq p n) [
        | inl same ↦ absurd (no_bud (ap (λ i. slice_index places i) (sym same) ∙ e))
        | inr ne ↦ h.every p (omega arith) e
      ]);
    }

pub listed_with_leaf : (places : List ℕ) (n t leaf : ℕ) (pairs : List (ℕ × ℕ)) → t < length pairs → IsListed places n pairs → IsListed places n (with_leaf pairs t leaf)
listed_with_leaf places n t leaf pairs t_in h =
    let few = h.few in
    let kept = length-with_leaf pairs t leaf in
    record {
      few = omega arith;
      before = (λ k less. omega (arith, bud_at-with_leaf pairs t leaf k t_in, h.before k (omega arith)));
      rising = (λ j k less within. omega (arith, bud_at-with_leaf pairs t leaf k t_in, bud_at-with_leaf pairs t leaf j t_in, h.rising j k less (omega arith)));
      every = (λ p less e. let old = h.every p less e in
          let inside = old.listed in
          record { index = old.index; listed = omega arith; same = bud_at-with_leaf pairs t leaf old.index t_in ∙ old.same });
    }

-- the state before place i of the first turn
pub record IsFirstTurn (places : List ℕ) (i : ℕ) (pairs : List (ℕ × ℕ)) (stack : List ℕ) : Type 0 where
  pub reading : IsReading places i pairs stack 0
  pub listed : IsListed places i pairs

pub first_none : (places : List ℕ) → IsFirstTurn places 0 [] []
first_none places = record { reading = reading_none places; listed = listed_none places }

pub first_bud : (places : List ℕ) (i : ℕ) (pairs : List (ℕ × ℕ)) (stack : List ℕ) → i < length places → slice_index places i ≡ BUD → IsFirstTurn places i pairs stack → IsFirstTurn places (suc i) (pairs ++ (i, 0) ∷ []) (stack ++ length pairs ∷ [])
first_bud places i pairs stack i_in e h = record {
  reading = reading_bud places i pairs stack (letter-first places i i_in ∙ e) h.reading;
  listed = listed_bud places i pairs h.listed;
}

no_bud_at_leaf : (x : ℕ) → x ≡ LEAF → x ≢ BUD
no_bud_at_leaf x e f = absurd (omega arith)

pub first_meet : (places : List ℕ) (i : ℕ) (pairs : List (ℕ × ℕ)) (stack : List ℕ) → i < length places → slice_index places i ≡ LEAF → 0 < length stack → IsFirstTurn places i pairs stack → IsFirstTurn places (suc i) (with_leaf pairs (top_of stack) i) (take (length stack - 1) stack)
first_meet places i pairs stack i_in e some h =
    let leaf : letter places i ≡ LEAF = letter-first places i i_in ∙ e in
    let meeting = open_meets places i _ leaf (top_opens places i pairs stack some h.reading) in
    record {
      reading = reading_meet places i i pairs stack leaf some h.reading (pair_first places _ i meeting i_in);
      listed = listed_with_leaf places (suc i) (top_of stack) i pairs (top_within places i pairs stack 0 some h.reading) (listed_other places i pairs (no_bud_at_leaf _ e) h.listed);
    }

pub first_loose : (places : List ℕ) (i : ℕ) (pairs : List (ℕ × ℕ)) (stack : List ℕ) → i < length places → slice_index places i ≡ LEAF → length stack ≡ 0 → IsFirstTurn places i pairs stack → IsFirstTurn places (suc i) pairs stack
first_loose places i pairs stack i_in e none h = record {
  reading = reading_loose places i pairs stack (letter-first places i i_in ∙ e) none h.reading;
  listed = listed_other places i pairs (no_bud_at_leaf _ e) h.listed;
}

pub first_other : (places : List ℕ) (i : ℕ) (pairs : List (ℕ × ℕ)) (stack : List ℕ) → i < length places → slice_index places i ≢ BUD → slice_index places i ≢ LEAF → IsFirstTurn places i pairs stack → IsFirstTurn places (suc i) pairs stack
first_other places i pairs stack i_in no_bud no_leaf h = record {
  reading = reading_other places i pairs stack 0 (omega arith) (λ e. no_bud (sym (letter-first places i i_in) ∙ e)) (λ e. no_leaf (sym (letter-first places i i_in) ∙ e)) h.reading;
  listed = listed_other places i pairs no_bud h.listed;
}

-- the free leaves before place q, in rising order
pub record IsFreeList (places : List ℕ) (q : ℕ) (free : List ℕ) : Type 0 where
  pub sound : (k : ℕ) → k < length free → IsFree places (slice_index free k)
  pub before : (k : ℕ) → k < length free → slice_index free k < q
  pub rising : (j k : ℕ) → j < k → k < length free → slice_index free j < slice_index free k
  pub whole : (r : ℕ) → r < q → slice_index places r ≡ LEAF → ((p : ℕ) × IsPair places p r) ⊎ IsStacked free r

pub free_none : (places : List ℕ) → IsFreeList places 0 []
free_none places = record {
  sound = (λ k less. absurd (omega arith));
  before = (λ k less. absurd (omega arith));
  rising = (λ j k less within. absurd (omega arith));
  whole = (λ r less e. absurd (omega arith));
}

-- a place that is no free leaf
pub free_more : (places : List ℕ) (q : ℕ) (free : List ℕ) → (slice_index places q ≡ LEAF → (p : ℕ) × IsPair places p q) → IsFreeList places q free → IsFreeList places (suc q) free
free_more places q free paired h = record {
  sound = h.sound;
  before = (λ k less. omega (arith, h.before k less));
  rising = h.rising;
  whole = (λ r less e. elim (cases_eq r q) [
    | inl same ↦ inl (subst (λ (s : ℕ). (p : ℕ) × IsPair places p s) (sym same) (paired (ap (λ i. slice_index places i) (sym same) ∙ e)))
    | inr ne ↦ h.whole r (omega arith) e
  ]);
}

pub free_push : (places : List ℕ) (q : ℕ) (free : List ℕ) → IsFree places q → IsFreeList places q free → IsFreeList places (suc q) (free ++ q ∷ [])
free_push places q free is_free h =
    let more : length (free ++ q ∷ []) ≡ suc (length free) = omega (arith, length_push free q) in
    let old_at = λ (k : ℕ) (less : k < length free). get_or_append_left free (q ∷ []) 0 k less in
    let last_at = λ (k : ℕ) (e : length free ≡ k). get_or_push free q 0 k e in
    record {
      sound = (λ k less. elim (cases_lt k (length free)) [
        | inl old ↦ subst (λ (s : ℕ). IsFree places s) (sym (old_at k old)) (h.sound k old)
        | inr late ↦ subst (λ (s : ℕ). IsFree places s) (sym (last_at k (omega arith))) is_free
      ]);
      before = (λ k less. elim (cases_lt k (length free)) [
        | inl old ↦ omega (arith, old_at k old, h.before k old)
        | inr late ↦ omega (arith, last_at k (omega arith))
      ]);
      rising = (λ j k less within. elim (cases_lt k (length free)) [
        | inl old ↦ omega (arith, old_at k old, old_at j (omega arith), h.rising j k less old)
        | inr late ↦ omega (arith, last_at k (omega arith), old_at j (omega arith), h.before j (omega arith))
      ]);
      whole = (λ r less e. elim (cases_eq r q) [
        | inl same ↦ inr (record { height = length free; on_stack = omega arith; is_there = last_at (length free) refl ∙ sym same })
        | inr ne ↦ elim (h.whole r (omega arith) e) [ inl pair ↦ inl pair | inr there ↦ inr (stacked_push free q r there) ]
      ]);
    }
