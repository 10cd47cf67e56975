-- The second turn gives the buds that still wait their leaves, and finds the two free leaves.
use Rattle.std.proofs.Common.{◌≡◌, ◌≢◌, ℕ, suc, ◌+◌, ◌-◌, ◌<◌, ◌≤◌, List, [], ◌∷◌, ◌++◌, length, get_or, take, refl, sym, ap, ◌∙◌, subst, ◌⊎◌, inl, inr, arith, Some}
use Rattle.std.specs.Prelude.{slice_index, slice_get}
use Rattle.std.proofs.lemmas.Bool.{cases_lt, cases_eq}
use Rattle.std.proofs.lemmas.List.{length_push, length-take-le}
use Rattle.std.proofs.lemmas.Option.{slice_get_within, slice_get-get_or, get_or_from_slice_get}
use Rattle.pm_trees.specs.declared.letters.TheConstants.{LEAF, BUD}
use Rattle.pm_match.specs.Pair.{IsPair}
use Rattle.pm_match.specs.steps.Waiting.{bud_at, with_leaf, top_of}
use Rattle.pm_match.specs.Pairing.{Pairs, IsPairing}
use Rattle.pm_match.proofs.Counts.{letter, buds, leaves, letter-second, bud_within, leaf_within, IsStep, at_bud, at_leaf, at_other, HasSurplus}
use Rattle.pm_match.proofs.Meeting.{pair_second, pair_unique, pair_unique_leaf, turned}
use Rattle.pm_match.proofs.Rise.{IsRise, free_at, pair_at}
use Rattle.pm_match.proofs.Reading.{IsStacked, leaf_at, IsOpen, open_meets, IsReading, reading_meet, reading_loose, reading_other, reading_inner_bud, reading_inner_leaf, top_within, top_opens}
use Rattle.pm_match.proofs.Turns.{IsListed, IsFirstTurn, listed_with_leaf, IsFreeList, free_none, free_more, free_push}

-- The state before place q of the second turn: so many pairs waited when it began, and so many buds of this turn wait.
pub record IsSecondTurn (places : List ℕ) (waited q : ℕ) (pairs : List (ℕ × ℕ)) (stack : List ℕ) (inner : ℕ) (free : List ℕ) : Type 0 where
  pub reading : IsReading places (length places + q) pairs stack inner
  pub listed : IsListed places (length places) pairs
  pub loose : IsFreeList places q free
  pub few : inner ≤ q
  pub level : buds places (length places + q) + leaves places (length places) + waited + length free ≡ leaves places (length places + q) + buds places (length places) + inner + length stack

pub second_none : (places : List ℕ) (pairs : List (ℕ × ℕ)) (stack : List ℕ) → IsFirstTurn places (length places) pairs stack → IsSecondTurn places (length stack) 0 pairs stack 0 []
second_none places pairs stack h =
    let same : length places + 0 ≡ length places = omega arith in
    record {
      reading = subst (λ (i : ℕ). IsReading places i pairs stack 0) (sym same) h.reading;
      listed = h.listed;
      loose = free_none places;
      few = omega arith;
      level = (let b = ap (λ i. buds places i) same in let l = ap (λ i. leaves places i) same in omega arith);
    }

turn_suc : (places : List ℕ) (q : ℕ) → suc (length places + q) ≡ length places + suc q
turn_suc places q = omega arith

-- the level after a step, whatever it does to what waits and to what is free
level_step : (places : List ℕ) (waited q b l n f m g : ℕ) → IsStep places (length places + q) b l → b + n + g ≡ l + m + f
    → buds places (length places + q) + leaves places (length places) + waited + f ≡ leaves places (length places + q) + buds places (length places) + n
    → buds places (length places + suc q) + leaves places (length places) + waited + g ≡ leaves places (length places + suc q) + buds places (length places) + m
level_step places waited q b l n f m g step e h =
    let k = ap (λ i. buds places i) (turn_suc places q) in
    let j = ap (λ i. leaves places i) (turn_suc places q) in
    omega (arith, step.more_buds, step.more_leaves)

pub second_bud : (places : List ℕ) (waited q : ℕ) (pairs : List (ℕ × ℕ)) (stack : List ℕ) (inner : ℕ) (free : List ℕ) → slice_index places q ≡ BUD → IsSecondTurn places waited q pairs stack inner free → IsSecondTurn places waited (suc q) pairs stack (suc inner) free
second_bud places waited q pairs stack inner free e h =
    let bud : letter places (length places + q) ≡ BUD = letter-second places q ∙ e in
    let few = h.few in
    record {
      reading = subst (λ (i : ℕ). IsReading places i pairs stack (suc inner)) (turn_suc places q) (reading_inner_bud places (length places + q) pairs stack inner bud h.reading);
      listed = h.listed;
      loose = free_more places q free (λ leaf. absurd (omega arith)) h.loose;
      few = omega arith;
      level = (let step = at_bud places (length places + q) bud in let next = level_step places waited q 1 0 (inner + length stack) (length free) (suc inner + length stack) (length free) step (omega arith) (omega (arith, h.level)) in omega arith);
    }

pub second_inner_leaf : (places : List ℕ) (waited q : ℕ) (pairs : List (ℕ × ℕ)) (stack : List ℕ) (inner : ℕ) (free : List ℕ) → HasSurplus places → q < length places → slice_index places q ≡ LEAF → IsSecondTurn places waited q pairs stack (suc inner) free → IsSecondTurn places waited (suc q) pairs stack inner free
second_inner_leaf places waited q pairs stack inner free s q_in e h =
    let leaf : letter places (length places + q) ≡ LEAF = letter-second places q ∙ e in
    let few = h.few in
    let more : length stack + suc inner ≡ suc (length stack + inner) = omega arith in
    let pair = pair_at places q (length stack + inner) s q_in e (subst (λ (c : ℕ). IsRise places (length places + q) c) more h.reading.rise) in
    record {
      reading = subst (λ (i : ℕ). IsReading places i pairs stack inner) (turn_suc places q) (reading_inner_leaf places (length places + q) pairs stack inner leaf h.reading);
      listed = h.listed;
      loose = free_more places q free (λ same. pair) h.loose;
      few = omega arith;
      level = (let step = at_leaf places (length places + q) leaf in let next = level_step places waited q 0 1 (suc inner + length stack) (length free) (inner + length stack) (length free) step (omega arith) (omega (arith, h.level)) in omega arith);
    }

pub second_meet : (places : List ℕ) (waited q : ℕ) (pairs : List (ℕ × ℕ)) (stack free : List ℕ) → HasSurplus places → q < length places → slice_index places q ≡ LEAF → 0 < length stack → IsSecondTurn places waited q pairs stack 0 free → IsSecondTurn places waited (suc q) (with_leaf pairs (top_of stack) q) (take (length stack - 1) stack) 0 free
second_meet places waited q pairs stack free s q_in e some h =
    let leaf : letter places (length places + q) ≡ LEAF = letter-second places q ∙ e in
    let t_in = top_within places (length places + q) pairs stack 0 some h.reading in
    let meeting = open_meets places (length places + q) _ leaf (top_opens places (length places + q) pairs stack some h.reading) in
    let pair = pair_second places (bud_at pairs (top_of stack)) q s meeting (h.listed.before (top_of stack) t_in) q_in in
    let shorter = length-take-le (length stack - 1) stack (omega arith) in
    record {
      reading = subst (λ (i : ℕ). IsReading places i (with_leaf pairs (top_of stack) q) (take (length stack - 1) stack) 0) (turn_suc places q) (reading_meet places (length places + q) q pairs stack leaf some h.reading pair);
      listed = listed_with_leaf places (length places) (top_of stack) q pairs t_in h.listed;
      loose = free_more places q free (λ same. (bud_at pairs (top_of stack), pair)) h.loose;
      few = omega arith;
      level = (let step = at_leaf places (length places + q) leaf in let next = level_step places waited q 0 1 (length stack) (length free) (length (take (length stack - 1) stack)) (length free) step (omega arith) (omega (arith, h.level)) in omega arith);
    }

pub second_loose : (places : List ℕ) (waited q : ℕ) (pairs : List (ℕ × ℕ)) (stack free : List ℕ) → slice_index places q ≡ LEAF → length stack ≡ 0 → IsSecondTurn places waited q pairs stack 0 free → IsSecondTurn places waited (suc q) pairs stack 0 (free ++ q ∷ [])
second_loose places waited q pairs stack free e empty h =
    let leaf : letter places (length places + q) ≡ LEAF = letter-second places q ∙ e in
    let none : length stack + 0 ≡ 0 = omega arith in
    let is_free = free_at places q e (subst (λ (c : ℕ). IsRise places (length places + q) c) none h.reading.rise) in
    let more = length_push free q in
    record {
      reading = subst (λ (i : ℕ). IsReading places i pairs stack 0) (turn_suc places q) (reading_loose places (length places + q) pairs stack leaf empty h.reading);
      listed = h.listed;
      loose = free_push places q free is_free h.loose;
      few = omega arith;
      level = (let step = at_leaf places (length places + q) leaf in let next = level_step places waited q 0 1 (length stack) (length free) (length stack) (length (free ++ q ∷ [])) step (omega arith) (omega (arith, h.level)) in omega arith);
    }

pub second_other : (places : List ℕ) (waited q : ℕ) (pairs : List (ℕ × ℕ)) (stack : List ℕ) (inner : ℕ) (free : List ℕ) → q < length places → slice_index places q ≢ BUD → slice_index places q ≢ LEAF → IsSecondTurn places waited q pairs stack inner free → IsSecondTurn places waited (suc q) pairs stack inner free
second_other places waited q pairs stack inner free q_in no_bud no_leaf h =
    let is_no_bud : letter places (length places + q) ≢ BUD = λ e. no_bud (sym (letter-second places q) ∙ e) in
    let is_no_leaf : letter places (length places + q) ≢ LEAF = λ e. no_leaf (sym (letter-second places q) ∙ e) in
    let few = h.few in
    record {
      reading = subst (λ (i : ℕ). IsReading places i pairs stack inner) (turn_suc places q) (reading_other places (length places + q) pairs stack inner (omega arith) is_no_bud is_no_leaf h.reading);
      listed = h.listed;
      loose = free_more places q free (λ e. absurd (no_leaf e)) h.loose;
      few = omega arith;
      level = (let step = at_other places (length places + q) (omega arith) is_no_bud is_no_leaf in let next = level_step places waited q 0 0 (inner + length stack) (length free) (inner + length stack) (length free) step (omega arith) (omega (arith, h.level)) in omega arith);
    }

-- at the end of the second turn no bud of the first waits
none_waits : (places : List ℕ) (p i n : ℕ) → HasSurplus places → IsOpen places i p n → p < length places → i < suc (length places + p)
none_waits places p i n s h p_in = elim (cases_lt i (suc (length places + p))) [
  | inl near ↦ near
  | inr far ↦
      let step = at_bud places p h.bud in
      let turn = turned places (length places + p) p refl (omega arith) in
      let high = h.above (length places + p) (omega arith) (omega arith) in
      absurd (omega (arith, s.surplus, step.more_buds, step.more_leaves, turn.turned_buds, turn.turned_leaves))
]

pub stack_empty : (places : List ℕ) (waited : ℕ) (pairs : List (ℕ × ℕ)) (stack : List ℕ) (inner : ℕ) (free : List ℕ) → HasSurplus places → IsSecondTurn places waited (length places) pairs stack inner free → length stack ≡ 0
stack_empty places waited pairs stack inner free s h = elim (cases_lt 0 (length stack)) [
  | inl some ↦
      let k_in = h.reading.within 0 some in
      let p_in = h.listed.before (slice_index stack 0) k_in in
      absurd (omega (arith, none_waits places _ _ _ s (h.reading.opens 0 (length stack - 1) (omega arith)) p_in))
  | inr none ↦ omega arith
]

-- the highest rise is the same after each turn
same_rise : (places : List ℕ) (waited inner : ℕ) → HasSurplus places → IsRise places (length places) waited → IsRise places (length places + length places) inner → waited ≡ inner
same_rise places waited inner s one two =
    let whole = turned places (length places + length places) (length places) refl (omega arith) in
    let one_before = one.foot_before in
    let two_before = two.foot_before in
    let foot = turned places (length places + one.foot) one.foot refl one.foot_before in
    let low = two.highest (length places + one.foot) (omega arith) in
    let up : waited ≤ inner = omega (arith, s.surplus, one.reached, whole.turned_buds, whole.turned_leaves, foot.turned_buds, foot.turned_leaves) in
    elim (cases_lt two.foot (length places)) [
      | inl first ↦ let high = one.highest two.foot (omega arith) in
          omega (arith, s.surplus, two.reached, whole.turned_buds, whole.turned_leaves)
      | inr later ↦
          let back = turned places two.foot (two.foot - length places) (omega arith) (omega arith) in
          let high = one.highest (two.foot - length places) (omega arith) in
          omega (arith, s.surplus, two.reached, whole.turned_buds, whole.turned_leaves, back.turned_buds, back.turned_leaves)
    ]

pub two_free : (places : List ℕ) (waited : ℕ) (pairs : List (ℕ × ℕ)) (stack : List ℕ) (inner : ℕ) (free : List ℕ) → HasSurplus places → IsRise places (length places) waited → IsSecondTurn places waited (length places) pairs stack inner free → length free ≡ 2
two_free places waited pairs stack inner free s one h =
    let empty = stack_empty places waited pairs stack inner free s h in
    let only : length stack + inner ≡ inner = omega arith in
    let same = same_rise places waited inner s one (subst (λ (c : ℕ). IsRise places (length places + length places) c) only h.reading.rise) in
    let whole = turned places (length places + length places) (length places) refl (omega arith) in
    omega (arith, s.surplus, h.level, whole.turned_buds, whole.turned_leaves)

listed_within : (pairs : List (ℕ × ℕ)) (k p q : ℕ) → slice_get pairs k ≡ Some (p, q) → (bud_at pairs k ≡ p) × (leaf_at pairs k ≡ q)
unfolding bud_at leaf_at
listed_within pairs k p q e =
    let same = get_or_from_slice_get pairs k (p, q) (0, 0) e in
    (ap (λ (x : ℕ × ℕ). x.0) same, ap (λ (x : ℕ × ℕ). x.1) same)

listed_at : (pairs : List (ℕ × ℕ)) (k p q : ℕ) → k < length pairs → bud_at pairs k ≡ p → leaf_at pairs k ≡ q → slice_get pairs k ≡ Some (p, q)
unfolding bud_at leaf_at
listed_at pairs k p q less e f =
    slice_get-get_or pairs k (0, 0) less ∙ ap (λ (x : ℕ). Some (x, (get_or pairs k (0, 0)).1)) e ∙ ap (λ (x : ℕ). Some (p, x)) f

-- the pairing that the two turns give
abbrev pub found : List (ℕ × ℕ) → List ℕ → Pairs
found pairs free = record { pairs = pairs; first_free = slice_index free 0; second_free = slice_index free 1 }

-- one of two listed places
free_by_index : (free : List ℕ) (q : ℕ) → length free ≡ 2 → IsStacked free q → (q ≡ slice_index free 0) ⊎ (q ≡ slice_index free 1)
free_by_index free q two there = elim (cases_eq there.height 0) [
  | inl e ↦ inl (sym there.is_there ∙ ap (λ k. slice_index free k) e)
  | inr ne ↦ let less = there.on_stack in let last : there.height ≡ 1 = omega arith in
      inr (sym there.is_there ∙ ap (λ k. slice_index free k) last)
]

pub pairing_from : (places : List ℕ) (waited : ℕ) (pairs : List (ℕ × ℕ)) (stack : List ℕ) (inner : ℕ) (free : List ℕ) → HasSurplus places → IsRise places (length places) waited → IsSecondTurn places waited (length places) pairs stack inner free → IsPairing places (found pairs free)
pairing_from places waited pairs stack inner free s one h =
    let empty = stack_empty places waited pairs stack inner free s h in
    let two = two_free places waited pairs stack inner free s one h in
    let is_pair = λ (k : ℕ) (less : k < length pairs). elim (h.reading.met k less) as (λ _. IsPair places (bud_at pairs k) (leaf_at pairs k)) [
      | inl waits ↦ absurd (omega (arith, waits.on_stack))
      | inr pair ↦ pair
    ] in
    record {
      sound = (λ k p q e. let at = listed_within pairs k p q e in
          subst (λ (a : ℕ). IsPair places a q) at.0 (subst (λ (b : ℕ). IsPair places (bud_at pairs k) b) at.1 (is_pair k (slice_get_within pairs k (p, q) e))));
      whole = (λ p q pair. let bud = h.listed.every p (bud_within places p pair.bud) pair.bud in
          let here : IsPair places p (leaf_at pairs bud.index) = subst (λ (a : ℕ). IsPair places a (leaf_at pairs bud.index)) bud.same (is_pair bud.index bud.listed) in
          (bud.index, listed_at pairs bud.index p q bud.listed bud.same (pair_unique places p _ q here pair)));
      rising = (λ j k p q r t less e f. omega (arith, h.listed.rising j k less (slice_get_within pairs k (r, t) f), (listed_within pairs j p q e).0, (listed_within pairs k r t f).0));
      each_bud = (λ p e. let bud = h.listed.every p (bud_within places p e) e in
          (leaf_at pairs bud.index, subst (λ (a : ℕ). IsPair places a (leaf_at pairs bud.index)) bud.same (is_pair bud.index bud.listed)));
      free = record {
        in_order = h.loose.rising 0 1 (omega arith) (omega arith);
        first_is = h.loose.sound 0 (omega arith);
        second_is = h.loose.sound 1 (omega arith);
        no_third = (λ q is_free. elim (h.loose.whole q (leaf_within places q is_free.leaf) is_free.leaf) [
          | inl pair ↦ absurd (is_free.alone pair.0 pair.1)
          | inr there ↦ free_by_index free q two there
        ]);
      };
      one_leaf = pair_unique places;
      one_bud = (λ p q r pair other. pair_unique_leaf places p q r pair other);
      each_leaf = (λ q e. elim (h.loose.whole q (leaf_within places q e) e) [ inl pair ↦ inl pair | inr there ↦ inr (free_by_index free q two there) ]);
    }
