-- Record lows: the leaves of the first turn that no bud before them waits for. The last two of them are free.
use Rattle.std.proofs.Common.{◌≡◌, ◌≢◌, ℕ, suc, ◌+◌, ◌-◌, ◌<◌, ◌≤◌, inl, inr, List, length, refl, sym, ◌∙◌, subst, arith, add-one}
use Rattle.std.specs.Prelude.{slice_index}
use Rattle.std.proofs.lemmas.Bool.{cases_lt, cases_eq}
use Rattle.pm_trees.specs.declared.letters.TheConstants.{LEAF, BUD}
use Rattle.pm_brackets.specs.Word.{count}
use Rattle.pm_trees.specs.Word.{contour}
use Rattle.pm_match.specs.Pair.{IsFree}
use Rattle.pm_match.specs.FreeLeaves.{AreFreeLeaves}
use Rattle.pm_match.proofs.Counts.{letter, buds, leaves, letter-first, IsStep, at_bud, at_leaf, at_other, start, HasSurplus, surplus_from}
use Rattle.pm_match.proofs.Meeting.{turned}
use Rattle.pm_match.proofs.Paired.{at_most_two_free}
use Rattle.pm_match.proofs.Rise.{IsRise, IsWaiting, letter-contour, rise_none, waiting_none, waiting_bud, waiting_leaf, waiting_other, free_at}

-- the leaf at q is a record low, n above the lowest value up to place i, where c buds wait
pub record IsLow (places : List ℕ) (i c n q : ℕ) : Type 0 where
  pub leaf : letter places q ≡ LEAF
  pub before : q < i
  pub rise : IsRise places q 0
  pub level : buds places q + leaves places i + c ≡ leaves places q + buds places i + n

low_step : (places : List ℕ) (i b l c after n q : ℕ) → IsStep places i b l → l + after ≡ b + c → IsLow places i c n q → IsLow places (suc i) after n q
low_step places i b l c after n q step e h =
    let before = h.before in
    record { leaf = h.leaf; before = omega arith; rise = h.rise; level = omega (arith, h.level, step.more_buds, step.more_leaves) }

-- a new record low, above which the former ones stand by one more
low_sinks : (places : List ℕ) (i n q : ℕ) → letter places i ≡ LEAF → IsLow places i 0 n q → IsLow places (suc i) 0 (suc n) q
low_sinks places i n q e h =
    let before = h.before in
    let step = at_leaf places i e in
    record { leaf = h.leaf; before = omega arith; rise = h.rise; level = omega (arith, h.level, step.more_buds, step.more_leaves) }

low_new : (places : List ℕ) (i : ℕ) → letter places i ≡ LEAF → IsRise places i 0 → IsLow places (suc i) 0 1 i
low_new places i e h =
    let step = at_leaf places i e in
    record { leaf = e; before = omega arith; rise = h; level = omega (arith, step.more_buds, step.more_leaves) }

-- the last two record lows before place i, where there are as many
pub record AreLows (places : List ℕ) (i c first second : ℕ) : Type 0 where
  pub later : IsLow places i c 1 second
  pub earlier : buds places i + 1 < leaves places i + c → IsLow places i c 2 first

lows_step : (places : List ℕ) (i b l c after first second : ℕ) → IsStep places i b l → l + after ≡ b + c → AreLows places i c first second → AreLows places (suc i) after first second
lows_step places i b l c after first second step e h = record {
  later = low_step places i b l c after 1 second step e h.later;
  earlier = λ two. low_step places i b l c after 2 first step e (h.earlier (omega (arith, two, step.more_buds, step.more_leaves)));
}

lows_sink : (places : List ℕ) (i first second : ℕ) → letter places i ≡ LEAF → IsRise places i 0 → AreLows places i 0 first second → AreLows places (suc i) 0 second i
lows_sink places i first second e rise h = record { later = low_new places i e rise; earlier = λ two. low_sinks places i 1 second e h.later }

-- after a turn, a record low that is so little above the lowest value is free
low_is_free : (places : List ℕ) (c n q : ℕ) → HasSurplus places → n ≤ 2 → IsRise places (length places) c → IsLow places (length places) c n q → IsFree places q
low_is_free places c n q s few turn h =
    let before = h.before in
    let level = h.level in
    let here = turned places (length places + q) q refl (omega arith) in
    free_at places q (sym (letter-first places q before) ∙ h.leaf) (record {
      highest = λ k near. elim (cases_lt (length places) k) [
        | inr first ↦ omega (arith, s.surplus, here.turned_buds, here.turned_leaves, turn.highest k first)
        | inl second ↦
            let back = turned places k (k - length places) (omega arith) (omega arith) in
            omega (arith, here.turned_buds, here.turned_leaves, back.turned_buds, back.turned_leaves, h.rise.highest (k - length places) (omega arith))
      ];
      foot = length places + q;
      foot_before = omega arith;
      reached = omega arith;
    })

-- the former of the two stands first
lows_in_order : (places : List ℕ) (i c p q : ℕ) → IsLow places i c 2 p → IsLow places i c 1 q → p < q
lows_in_order places i c p q earlier later = elim (cases_lt p q) [
  | inl fine ↦ fine
  | inr other ↦ absurd (omega (arith, earlier.level, later.level, earlier.rise.highest q other))
]

lows_free : (word : List ℕ) (c first second : ℕ) → count LEAF (contour word) ≡ count BUD (contour word) + 2 → IsRise (contour word) (length (contour word)) c
    → AreLows (contour word) (length (contour word)) c first second → AreFreeLeaves (contour word) first second
lows_free word c first second s rise h =
    let places = contour word in
    let surplus = surplus_from (contour word) s in
    let earlier = h.earlier (omega (arith, surplus.surplus)) in
    let order = lows_in_order places (length places) c first second earlier h.later in
    let first_is = low_is_free places c 2 first surplus (omega arith) rise earlier in
    let second_is = low_is_free places c 1 second surplus (omega arith) rise h.later in
    record {
      in_order = order;
      first_is = first_is;
      second_is = second_is;
      no_third = λ q free. elim (cases_eq q first) [
        | inl e ↦ inl e
        | inr ne ↦ inr (at_most_two_free word s first q second first_is free second_is (λ e. ne (sym e)) (λ e. absurd (omega arith)))
      ];
    }

-- the state after k letters of a word: so many buds wait, and these are the last two record lows
pub record IsSunk (letters : List ℕ) (k waiting first second : ℕ) : Type 0 where
  pub waits : IsWaiting letters k waiting
  pub lows : AreLows (contour letters) (suc k) waiting first second

pub sunk_none : (letters : List ℕ) → IsSunk letters 0 0 0 0
sunk_none letters =
    let places = contour letters in
    let plant : letter places 0 ≡ LEAF = letter-first places 0 (omega arith) in
    let step = at_leaf places 0 plant in
    let zero = start places in
    record {
      waits = waiting_none letters;
      lows = record {
        later = low_new places 0 plant (rise_none places);
        earlier = λ two. absurd (omega (arith, step.more_buds, step.more_leaves, zero.no_buds, zero.no_leaves, two));
      };
    }

pub sunk_bud : (letters : List ℕ) (k c first second : ℕ) → k < length letters → slice_index letters k ≡ BUD → IsSunk letters k c first second → IsSunk letters (k + 1) (c + 1) first second
sunk_bud letters k c first second k_in e h = record {
  waits = waiting_bud letters k c k_in e h.waits;
  lows = rw (add-one, add-one) (lows_step (contour letters) (suc k) 1 0 c (suc c) first second (at_bud (contour letters) (suc k) (letter-contour letters k k_in ∙ e)) (omega arith) h.lows);
}

pub sunk_leaf : (letters : List ℕ) (k c first second : ℕ) → k < length letters → slice_index letters k ≡ LEAF → 0 < c → IsSunk letters k c first second → IsSunk letters (k + 1) (c - 1) first second
sunk_leaf letters k c first second k_in e some h = record {
  waits = waiting_leaf letters k c k_in e h.waits;
  lows = rw add-one (lows_step (contour letters) (suc k) 0 1 c (c - 1) first second (at_leaf (contour letters) (suc k) (letter-contour letters k k_in ∙ e)) (omega arith) h.lows);
}

pub sunk_low : (letters : List ℕ) (k c first second : ℕ) → k < length letters → slice_index letters k ≡ LEAF → c ≡ 0 → IsSunk letters k c first second → IsSunk letters (k + 1) c second (k + 1)
sunk_low letters k c first second k_in e none h = subst (λ (n : ℕ). IsSunk letters (k + 1) n second (k + 1)) (sym none) (low_at k_in e (subst (λ (n : ℕ). IsSunk letters k n first second) none h)) where
  low_at : k < length letters → slice_index letters k ≡ LEAF → IsSunk letters k 0 first second → IsSunk letters (k + 1) 0 second (k + 1)
  low_at k_in e h = record {
    waits = waiting_leaf letters k 0 k_in e h.waits;
    lows = rw add-one (lows_sink (contour letters) (suc k) first second (letter-contour letters k k_in ∙ e) h.waits.rise h.lows);
  }

pub sunk_other : (letters : List ℕ) (k c first second : ℕ) → k < length letters → slice_index letters k ≢ BUD → slice_index letters k ≢ LEAF → IsSunk letters k c first second → IsSunk letters (k + 1) c first second
sunk_other letters k c first second k_in no_bud no_leaf h =
    let same = letter-contour letters k k_in in
    let step = at_other (contour letters) (suc k) (omega arith) (λ e. no_bud (sym same ∙ e)) (λ e. no_leaf (sym same ∙ e)) in
    record {
      waits = waiting_other letters k c k_in no_bud no_leaf h.waits;
      lows = rw add-one (lows_step (contour letters) (suc k) 0 0 c c first second step (omega arith) h.lows);
    }

-- after all letters they are the free leaves
pub sunk_free : (letters : List ℕ) (k c first second : ℕ) → count LEAF (contour letters) ≡ count BUD (contour letters) + 2 → k ≡ length letters → IsSunk letters k c first second → AreFreeLeaves (contour letters) first second
sunk_free letters k c first second s e h =
    let all = subst (λ (n : ℕ). IsSunk letters n c first second) e h in
    lows_free letters c first second s all.waits.rise all.lows
