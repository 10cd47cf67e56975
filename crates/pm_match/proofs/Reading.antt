-- What is known while the places of two turns are read, with a list of pairs in the making and a stack of those that wait
-- for their leaf.
use Rattle.std.proofs.Common.{◌≡◌, ◌≢◌, ℕ, zero, suc, ◌+◌, ◌-◌, ◌<◌, ◌≤◌, List, [], ◌∷◌, ◌++◌, length, get_or, set, take, refl, sym, ap, ◌∙◌, subst, ◌⊎◌, inl, inr, arith}
use Rattle.std.specs.Prelude.{slice_index}
use Rattle.std.proofs.lemmas.Bool.{cases_lt, cases_eq}
use Rattle.std.proofs.lemmas.List.{length-set, length_push, get_or_push, get_or_append_left, get_or-set_same, get_or-set_other, get_or-take, length-take-le}
use Rattle.pm_trees.specs.declared.letters.TheConstants.{LEAF, BUD}
use Rattle.pm_match.specs.Pair.{IsPair}
use Rattle.pm_match.specs.steps.Waiting.{bud_at, with_leaf, top_of}
use Rattle.pm_match.proofs.Counts.{letter, buds, leaves, IsStep, at_bud, at_leaf, at_other}
use Rattle.pm_match.proofs.Meeting.{IsMeeting}
use Rattle.pm_match.proofs.Rise.{IsRise, rise_none, rise_bud, rise_leaf, rise_loose, rise_other}

-- the leaf of the k-th pair
unfoldable pub leaf_at : List (ℕ × ℕ) → ℕ → ℕ
leaf_at pairs k = (get_or pairs k (0, 0)).1

pub bud_at-push : (pairs : List (ℕ × ℕ)) (x : ℕ × ℕ) → bud_at (pairs ++ x ∷ []) (length pairs) ≡ x.0
unfolding bud_at
bud_at-push pairs x = ap (λ (y : ℕ × ℕ). y.0) (get_or_push pairs x (0, 0) (length pairs) refl)

pub bud_at-before : (pairs : List (ℕ × ℕ)) (x : ℕ × ℕ) (k : ℕ) → k < length pairs → bud_at (pairs ++ x ∷ []) k ≡ bud_at pairs k
unfolding bud_at
bud_at-before pairs x k h = ap (λ (y : ℕ × ℕ). y.0) (get_or_append_left pairs (x ∷ []) (0, 0) k h)

pub leaf_at-before : (pairs : List (ℕ × ℕ)) (x : ℕ × ℕ) (k : ℕ) → k < length pairs → leaf_at (pairs ++ x ∷ []) k ≡ leaf_at pairs k
unfolding leaf_at
leaf_at-before pairs x k h = ap (λ (y : ℕ × ℕ). y.1) (get_or_append_left pairs (x ∷ []) (0, 0) k h)

pub length-with_leaf : (pairs : List (ℕ × ℕ)) (t leaf : ℕ) → length (with_leaf pairs t leaf) ≡ length pairs
unfolding with_leaf
length-with_leaf pairs t leaf = length-set pairs t _

pub bud_at-with_leaf : (pairs : List (ℕ × ℕ)) (t leaf k : ℕ) → t < length pairs → bud_at (with_leaf pairs t leaf) k ≡ bud_at pairs k
unfolding with_leaf bud_at
bud_at-with_leaf pairs t leaf k h = elim (cases_eq k t) [
  | inl e ↦ subst (λ (j : ℕ). (get_or (set pairs t (bud_at pairs t, leaf)) j (0, 0)).0 ≡ (get_or pairs j (0, 0)).0) (sym e) (ap (λ (y : ℕ × ℕ). y.0) (get_or-set_same pairs t (bud_at pairs t, leaf) (0, 0) h))
  | inr ne ↦ ap (λ (y : ℕ × ℕ). y.0) (get_or-set_other pairs t k (bud_at pairs t, leaf) (0, 0) ne)
]

pub leaf_at-with_leaf : (pairs : List (ℕ × ℕ)) (t leaf : ℕ) → t < length pairs → leaf_at (with_leaf pairs t leaf) t ≡ leaf
unfolding with_leaf leaf_at
leaf_at-with_leaf pairs t leaf h = ap (λ (y : ℕ × ℕ). y.1) (get_or-set_same pairs t (bud_at pairs t, leaf) (0, 0) h)

pub leaf_at-other : (pairs : List (ℕ × ℕ)) (t leaf k : ℕ) → k ≢ t → leaf_at (with_leaf pairs t leaf) k ≡ leaf_at pairs k
unfolding with_leaf leaf_at
leaf_at-other pairs t leaf k ne = ap (λ (y : ℕ × ℕ). y.1) (get_or-set_other pairs t k (bud_at pairs t, leaf) (0, 0) ne)

-- the bud p still waits at place i, and n more buds than leaves came after it
pub record IsOpen (places : List ℕ) (i p n : ℕ) : Type 0 where
  pub bud : letter places p ≡ BUD
  pub before : p < i
  pub excess : buds places i + leaves places (suc p) ≡ leaves places i + buds places (suc p) + n
  pub above : (k : ℕ) → suc p ≤ k → k ≤ i → leaves places k + buds places (suc p) ≤ buds places k + leaves places (suc p)

pub open_step : (places : List ℕ) (i p n m b l : ℕ) → IsStep places i b l → b + n ≡ l + m → IsOpen places i p n → IsOpen places (suc i) p m
open_step places i p n m b l step e h =
    let before = h.before in
    let excess : buds places (suc i) + leaves places (suc p) ≡ leaves places (suc i) + buds places (suc p) + m = omega (arith, h.excess, step.more_buds, step.more_leaves) in
    record {
      bud = h.bud;
      before = omega arith;
      excess = excess;
      above = (λ k low high. elim (cases_eq k (suc i)) [
        | inl same ↦ subst (λ (j : ℕ). leaves places j + buds places (suc p) ≤ buds places j + leaves places (suc p)) (sym same) (omega arith)
        | inr ne ↦ h.above k low (omega arith)
      ]);
    }

pub open_new : (places : List ℕ) (i : ℕ) → letter places i ≡ BUD → IsOpen places (suc i) i 0
open_new places i e = record {
  bud = e;
  before = omega arith;
  excess = omega arith;
  above = (λ k low high. let same : k ≡ suc i = omega arith in
      subst (λ (j : ℕ). leaves places j + buds places (suc i) ≤ buds places j + leaves places (suc i)) (sym same) (omega arith));
}

pub open_meets : (places : List ℕ) (i p : ℕ) → letter places i ≡ LEAF → IsOpen places i p 0 → IsMeeting places p i
open_meets places i p e h = record { bud = h.bud; leaf = e; before = h.before; level = omega (arith, h.excess); above = h.above }

-- the k-th pair waits on the stack
pub record IsStacked (stack : List ℕ) (k : ℕ) : Type 0 where
  pub height : ℕ
  pub on_stack : height < length stack
  pub is_there : slice_index stack height ≡ k

-- The state before place i: the stack has the pairs that wait, the last bud at its top, and each other pair is one. So many
-- buds more wait, that aren't on the stack.
pub record IsReading (places : List ℕ) (i : ℕ) (pairs : List (ℕ × ℕ)) (stack : List ℕ) (inner : ℕ) : Type 0 where
  pub rise : IsRise places i (length stack + inner)
  pub within : (h : ℕ) → h < length stack → slice_index stack h < length pairs
  pub opens : (h n : ℕ) → suc (h + n) ≡ length stack → IsOpen places i (bud_at pairs (slice_index stack h)) (n + inner)
  pub met : (k : ℕ) → k < length pairs → IsStacked stack k ⊎ IsPair places (bud_at pairs k) (leaf_at pairs k)

pub reading_none : (places : List ℕ) → IsReading places 0 [] [] 0
reading_none places = record {
  rise = rise_none places;
  within = (λ h less. absurd (omega arith));
  opens = (λ h n e. absurd (omega arith));
  met = (λ k less. absurd (omega arith));
}

-- a bud of the second turn, which isn't stacked
pub reading_inner_bud : (places : List ℕ) (i : ℕ) (pairs : List (ℕ × ℕ)) (stack : List ℕ) (inner : ℕ) → letter places i ≡ BUD → IsReading places i pairs stack inner → IsReading places (suc i) pairs stack (suc inner)
reading_inner_bud places i pairs stack inner e h =
    let more : suc (length stack + inner) ≡ length stack + suc inner = omega arith in
    record {
      rise = subst (λ (c : ℕ). IsRise places (suc i) c) more (rise_bud places i _ e h.rise);
      within = h.within;
      opens = (λ g n same. open_step places i _ (n + inner) (n + suc inner) 1 0 (at_bud places i e) (omega arith) (h.opens g n same));
      met = h.met;
    }

-- the leaf of such a bud
pub reading_inner_leaf : (places : List ℕ) (i : ℕ) (pairs : List (ℕ × ℕ)) (stack : List ℕ) (inner : ℕ) → letter places i ≡ LEAF → IsReading places i pairs stack (suc inner) → IsReading places (suc i) pairs stack inner
reading_inner_leaf places i pairs stack inner e h =
    let more : length stack + suc inner ≡ suc (length stack + inner) = omega arith in
    record {
      rise = rise_leaf places i _ e (subst (λ (c : ℕ). IsRise places i c) more h.rise);
      within = h.within;
      opens = (λ g n same. open_step places i _ (n + suc inner) (n + inner) 0 1 (at_leaf places i e) (omega arith) (h.opens g n same));
      met = h.met;
    }

-- a leaf for which no bud waits
pub reading_loose : (places : List ℕ) (i : ℕ) (pairs : List (ℕ × ℕ)) (stack : List ℕ) → letter places i ≡ LEAF → length stack ≡ 0 → IsReading places i pairs stack 0 → IsReading places (suc i) pairs stack 0
reading_loose places i pairs stack e empty h =
    let none : length stack + 0 ≡ 0 = omega arith in
    record {
      rise = subst (λ (c : ℕ). IsRise places (suc i) c) (sym none) (rise_loose places i e (subst (λ (c : ℕ). IsRise places i c) none h.rise));
      within = h.within;
      opens = (λ g n same. absurd (omega arith));
      met = h.met;
    }

-- a bracket
pub reading_other : (places : List ℕ) (i : ℕ) (pairs : List (ℕ × ℕ)) (stack : List ℕ) (inner : ℕ) → i < length places + length places → letter places i ≢ BUD → letter places i ≢ LEAF → IsReading places i pairs stack inner → IsReading places (suc i) pairs stack inner
reading_other places i pairs stack inner i_in no_bud no_leaf h = record {
  rise = rise_other places i _ i_in no_bud no_leaf h.rise;
  within = h.within;
  opens = (λ g n same. open_step places i _ (n + inner) (n + inner) 0 0 (at_other places i i_in no_bud no_leaf) (omega arith) (h.opens g n same));
  met = h.met;
}

pair_same : (places : List ℕ) (p q r t : ℕ) → p ≡ r → q ≡ t → IsPair places p q → IsPair places r t
pair_same places p q r t same_bud same_leaf h = subst (λ (a : ℕ). IsPair places a t) same_bud (subst (λ (b : ℕ). IsPair places p b) same_leaf h)

push_before : (stack : List ℕ) (x h : ℕ) → h < length stack → slice_index (stack ++ x ∷ []) h ≡ slice_index stack h
push_before stack x h less = get_or_append_left stack (x ∷ []) 0 h less

push_top : (stack : List ℕ) (x h : ℕ) → length stack ≡ h → slice_index (stack ++ x ∷ []) h ≡ x
push_top stack x h e = get_or_push stack x 0 h e

pub stacked_push : (stack : List ℕ) (x k : ℕ) → IsStacked stack k → IsStacked (stack ++ x ∷ []) k
stacked_push stack x k h =
    let less = h.on_stack in
    record { height = h.height; on_stack = omega (arith, length_push stack x); is_there = push_before stack x h.height h.on_stack ∙ h.is_there }

opens_push : (places : List ℕ) (i : ℕ) (pairs : List (ℕ × ℕ)) (stack : List ℕ) → letter places i ≡ BUD → IsReading places i pairs stack 0 → (g n : ℕ) → suc (g + n) ≡ suc (length stack)
    → IsOpen places (suc i) (bud_at (pairs ++ (i, 0) ∷ []) (slice_index (stack ++ length pairs ∷ []) g)) (n + 0)
opens_push places i pairs stack e h g zero same =
    let top = push_top stack (length pairs) g (omega arith) in
    let bud = ap (λ k. bud_at (pairs ++ (i, 0) ∷ []) k) top ∙ bud_at-push pairs (i, 0) in
    subst (λ (p : ℕ). IsOpen places (suc i) p 0) (sym bud) (open_new places i e)
opens_push places i pairs stack e h g (suc n) same =
    let less : g < length stack = omega arith in
    let old = push_before stack (length pairs) g less in
    let bud = ap (λ k. bud_at (pairs ++ (i, 0) ∷ []) k) old ∙ bud_at-before pairs (i, 0) (slice_index stack g) (h.within g less) in
    subst (λ (p : ℕ). IsOpen places (suc i) p (suc n + 0)) (sym bud) (open_step places i _ (n + 0) (suc n + 0) 1 0 (at_bud places i e) (omega arith) (h.opens g n (omega arith)))

-- a bud of the first turn, whose pair is the last of the list and at the top of the stack
pub reading_bud : (places : List ℕ) (i : ℕ) (pairs : List (ℕ × ℕ)) (stack : List ℕ) → letter places i ≡ BUD → IsReading places i pairs stack 0 → IsReading places (suc i) (pairs ++ (i, 0) ∷ []) (stack ++ length pairs ∷ []) 0
reading_bud places i pairs stack e h =
    let more_pairs : length (pairs ++ (i, 0) ∷ []) ≡ suc (length pairs) = omega (arith, length_push pairs (i, 0)) in
    let more_stack : length (stack ++ length pairs ∷ []) ≡ suc (length stack) = omega (arith, length_push stack (length pairs)) in
    let high : suc (length stack + 0) ≡ length (stack ++ length pairs ∷ []) + 0 = omega arith in
    record {
      rise = subst (λ (c : ℕ). IsRise places (suc i) c) high (rise_bud places i _ e h.rise);
      within = (λ g less. elim (cases_lt g (length stack)) [
        | inl old ↦ let same = push_before stack (length pairs) g old in omega (arith, h.within g old)
        | inr late ↦ let same = push_top stack (length pairs) g (omega arith) in omega arith
      ]);
      opens = (λ g n same. opens_push places i pairs stack e h g n (omega arith));
      met = (λ k less. elim (cases_lt k (length pairs)) [
        | inl old ↦ elim (h.met k old) [
          | inl waits ↦ inl (stacked_push stack (length pairs) k waits)
          | inr pair ↦ inr (pair_same places _ _ _ _ (sym (bud_at-before pairs (i, 0) k old)) (sym (leaf_at-before pairs (i, 0) k old)) pair)
        ]
        | inr late ↦
            let last : length pairs ≡ k = omega arith in
            inl (record { height = length stack; on_stack = omega arith; is_there = push_top stack (length pairs) (length stack) refl ∙ last })
      ]);
    }

met_below : (stack : List ℕ) (k : ℕ) → k ≢ top_of stack → IsStacked stack k → IsStacked (take (length stack - 1) stack) k
unfolding top_of
met_below stack k ne h =
    let less = h.on_stack in
    let shorter = length-take-le (length stack - 1) stack (omega arith) in
    elim (cases_lt h.height (length stack - 1)) [
      | inl low ↦ record { height = h.height; on_stack = omega arith; is_there = get_or-take (length stack - 1) stack h.height 0 low ∙ h.is_there }
      | inr high ↦
          let last : h.height ≡ length stack - 1 = omega arith in
          absurd (ne (sym h.is_there ∙ ap (λ g. slice_index stack g) last))
    ]

pub top_within : (places : List ℕ) (i : ℕ) (pairs : List (ℕ × ℕ)) (stack : List ℕ) (inner : ℕ) → 0 < length stack → IsReading places i pairs stack inner → top_of stack < length pairs
unfolding top_of
top_within places i pairs stack inner some h = h.within (length stack - 1) (omega arith)

pub top_opens : (places : List ℕ) (i : ℕ) (pairs : List (ℕ × ℕ)) (stack : List ℕ) → 0 < length stack → IsReading places i pairs stack 0 → IsOpen places i (bud_at pairs (top_of stack)) 0
unfolding top_of
top_opens places i pairs stack some h = h.opens (length stack - 1) 0 (omega arith)

-- a leaf for which the bud at the top of the stack waits
pub reading_meet : (places : List ℕ) (i q : ℕ) (pairs : List (ℕ × ℕ)) (stack : List ℕ) → letter places i ≡ LEAF → 0 < length stack → IsReading places i pairs stack 0 → IsPair places (bud_at pairs (top_of stack)) q
    → IsReading places (suc i) (with_leaf pairs (top_of stack) q) (take (length stack - 1) stack) 0
reading_meet places i q pairs stack e some h pair =
    let t_in : top_of stack < length pairs = top_within places i pairs stack 0 some h in
    let shorter = length-take-le (length stack - 1) stack (omega arith) in
    let kept = length-with_leaf pairs (top_of stack) q in
    let high : length stack + 0 ≡ suc (length (take (length stack - 1) stack) + 0) = omega arith in
    record {
      rise = rise_leaf places i _ e (subst (λ (c : ℕ). IsRise places i c) high h.rise);
      within = (λ g less. let low : g < length stack - 1 = omega arith in
          let same = get_or-take (length stack - 1) stack g 0 low in omega (arith, h.within g (omega arith)));
      opens = (λ g n same. let low : g < length stack - 1 = omega arith in
          let old = get_or-take (length stack - 1) stack g 0 low in
          let bud = ap (λ k. bud_at (with_leaf pairs (top_of stack) q) k) old ∙ bud_at-with_leaf pairs (top_of stack) q (slice_index stack g) t_in in
          subst (λ (p : ℕ). IsOpen places (suc i) p (n + 0)) (sym bud) (open_step places i _ (suc n + 0) (n + 0) 0 1 (at_leaf places i e) (omega arith) (h.opens g (suc n) (omega arith))));
      met = (λ k less. let same_bud = bud_at-with_leaf pairs (top_of stack) q k t_in in
          elim (cases_eq k (top_of stack)) [
            | inl same ↦ inr (pair_same places _ _ _ _ (ap (λ j. bud_at pairs j) (sym same) ∙ sym same_bud) (sym (leaf_at-with_leaf pairs (top_of stack) q t_in) ∙ ap (λ j. leaf_at (with_leaf pairs (top_of stack) q) j) (sym same)) pair)
            | inr ne ↦ elim (h.met k (omega arith)) [
              | inl waits ↦ inl (met_below stack k ne waits)
              | inr old ↦ inr (pair_same places _ _ _ _ (sym same_bud) (sym (leaf_at-other pairs (top_of stack) q k ne)) old)
            ]
          ]);
    }
