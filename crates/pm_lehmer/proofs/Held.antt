-- A set of numbers in words, and what a number that is put in or taken out makes of it.
use Rattle.std.proofs.Common.{◌≡◌, ℕ, suc, ◌+◌, ◌-◌, ◌*◌, ◌^◌, ◌<◌, ◌≤◌, min, List, length, get_or, count_ones, ap, ◌∙◌, arith, inl, inr, get_or-set_other, get_or-set_same}
use Rattle.std.proofs.Math.ListN.{set, length-set}
use Rattle.std.proofs.lemmas.Bool.{cases_lt, cases_order}
use Rattle.pm_lehmer.specs.steps.Counted.{start_of, IsCounted, IsMore}
use Rattle.pm_lehmer.specs.steps.Held.{ones_below, IsBitOfRank, IsHeld, HasRank}
use Rattle.pm_lehmer.proofs.Ones.{IsBitMore, ones_below-same, ones_below-raised, ones_below-next, ones_below-whole, ones_below-first, ones_below-zero}

-- one number more is one more in its word
IsMore-words : (number word bit : ℕ) (fewer more : ℕ → ℕ) → number ≡ 64 * word + bit → bit < 64 → IsMore number 1 fewer more → IsMore word 1 (λ w. fewer (64 * w)) (λ w. more (64 * w))
IsMore-words number word bit fewer more is inside one = record {
  same = λ w low. one.same (64 * w) (omega arith);
  raised = λ w high. one.raised (64 * w) (omega arith);
}

-- an empty set
pub IsHeld-none : (words counts : List ℕ) (below : ℕ → ℕ) → ((place : ℕ) → place < length words → get_or words place 0 ≡ 0) → ((place : ℕ) → place < length counts → get_or counts place 0 ≡ 0) → ((number : ℕ) → below number ≡ 0) → IsHeld words counts below
IsHeld-none words counts below no_bits none_counted none = record {
  counted = record { at_middle = λ word positive inside. omega (arith, none_counted word inside, none (64 * word), none (64 * start_of (length counts) word)) };
  in_word = λ word bit inside within. omega (arith, none (64 * word), none (64 * word + bit), ap (λ w. ones_below w bit) (no_bits word inside), ones_below-zero bit);
}

-- a count that is the same everywhere
pub IsHeld-same : (words counts : List ℕ) (first second : ℕ → ℕ) → IsHeld words counts first → ((number : ℕ) → second number ≡ first number) → IsHeld words counts second
IsHeld-same words counts first second held same = record {
  counted = record { at_middle = λ word positive inside. omega (arith, held.counted.at_middle word positive inside, same (64 * word), same (64 * start_of (length counts) word)) };
  in_word = λ word bit inside within. omega (arith, held.in_word word bit inside within, same (64 * word), same (64 * word + bit));
}

-- how many numbers are below one
pub held_below : (words counts : List ℕ) (number word bit : ℕ) (below : ℕ → ℕ) → IsHeld words counts below → number ≡ 64 * word + bit → bit ≤ 64 → word < length words → below number ≡ below (64 * word) + ones_below (get_or words word 0) bit
held_below words counts number word bit below held is within inside = ap below is ∙ held.in_word word bit inside within

-- a number is put in
pub IsHeld-more : (words counts after : List ℕ) (number word bit value : ℕ) (fewer more : ℕ → ℕ) → IsHeld words counts fewer → number ≡ 64 * word + bit → bit < 64 → word < length words → IsMore number 1 fewer more → IsBitMore bit (get_or words word 0) value
    → ((fewer more : ℕ → ℕ) → IsCounted counts fewer → IsMore word 1 fewer more → IsCounted after more)
    → IsHeld (set words word value) after more
IsHeld-more words counts after number word bit value fewer more held is within inside one set_one counted = record {
  counted = counted (λ w. fewer (64 * w)) (λ w. more (64 * w)) held.counted (IsMore-words number word bit fewer more is within one);
  in_word = λ w b in_set b_within. let w_inside : w < length words = omega (arith, in_set, length-set words word value) in elim (cases_order w word) [
    | inl here ↦
        let now : get_or (set words word value) w 0 ≡ value = ap (λ n. get_or (set words word value) n 0) here ∙ get_or-set_same words word value 0 inside in
        let before : get_or words w 0 ≡ get_or words word 0 = ap (λ n. get_or words n 0) here in
        let ones_now = ap (λ n. ones_below n b) now in
        let ones_before = ap (λ n. ones_below n b) before in
        elim (cases_lt bit b) [
          | inl high ↦ omega (arith, here, ones_now, ones_before, ones_below-raised bit (get_or words word 0) value b set_one high b_within, held.in_word w b w_inside b_within, one.raised (64 * w + b) (omega (arith, here)), one.same (64 * w) (omega (arith, here)))
          | inr low ↦ omega (arith, here, ones_now, ones_before, ones_below-same bit (get_or words word 0) value b set_one within low, held.in_word w b w_inside b_within, one.same (64 * w + b) (omega (arith, here)), one.same (64 * w) (omega (arith, here)))
        ]
    | inr side ↦
        let other : get_or (set words word value) w 0 ≡ get_or words w 0 = get_or-set_other words word w value 0 (λ same. elim side [ inl less ↦ omega arith | inr above ↦ omega arith ]) in
        let ones = ap (λ n. ones_below n b) other in
        elim side [
          | inl less ↦ omega (arith, ones, held.in_word w b w_inside b_within, one.same (64 * w + b) (omega arith), one.same (64 * w) (omega arith))
          | inr above ↦ omega (arith, ones, held.in_word w b w_inside b_within, one.raised (64 * w + b) (omega arith), one.raised (64 * w) (omega arith))
        ]
  ];
}

-- a number is taken out
pub IsHeld-fewer : (words counts after : List ℕ) (number word bit value : ℕ) (fewer more : ℕ → ℕ) → IsHeld words counts more → number ≡ 64 * word + bit → bit < 64 → word < length words → IsMore number 1 fewer more → IsBitMore bit value (get_or words word 0)
    → ((fewer more : ℕ → ℕ) → IsCounted counts more → IsMore word 1 fewer more → IsCounted after fewer)
    → IsHeld (set words word value) after fewer
IsHeld-fewer words counts after number word bit value fewer more held is within inside one cleared counted = record {
  counted = counted (λ w. fewer (64 * w)) (λ w. more (64 * w)) held.counted (IsMore-words number word bit fewer more is within one);
  in_word = λ w b in_set b_within. let w_inside : w < length words = omega (arith, in_set, length-set words word value) in elim (cases_order w word) [
    | inl here ↦
        let now : get_or (set words word value) w 0 ≡ value = ap (λ n. get_or (set words word value) n 0) here ∙ get_or-set_same words word value 0 inside in
        let before : get_or words w 0 ≡ get_or words word 0 = ap (λ n. get_or words n 0) here in
        let ones_now = ap (λ n. ones_below n b) now in
        let ones_before = ap (λ n. ones_below n b) before in
        elim (cases_lt bit b) [
          | inl high ↦ omega (arith, here, ones_now, ones_before, ones_below-raised bit value (get_or words word 0) b cleared high b_within, held.in_word w b w_inside b_within, one.raised (64 * w + b) (omega (arith, here)), one.same (64 * w) (omega (arith, here)))
          | inr low ↦ omega (arith, here, ones_now, ones_before, ones_below-same bit value (get_or words word 0) b cleared within low, held.in_word w b w_inside b_within, one.same (64 * w + b) (omega (arith, here)), one.same (64 * w) (omega (arith, here)))
        ]
    | inr side ↦
        let other : get_or (set words word value) w 0 ≡ get_or words w 0 = get_or-set_other words word w value 0 (λ same. elim side [ inl less ↦ omega arith | inr above ↦ omega arith ]) in
        let ones = ap (λ n. ones_below n b) other in
        elim side [
          | inl less ↦ omega (arith, ones, held.in_word w b w_inside b_within, one.same (64 * w + b) (omega arith), one.same (64 * w) (omega arith))
          | inr above ↦ omega (arith, ones, held.in_word w b w_inside b_within, one.raised (64 * w + b) (omega arith), one.raised (64 * w) (omega arith))
        ]
  ];
}

-- the word that `take` finds has the number of the rank
pub has_bit : (words counts : List ℕ) (rank word left : ℕ) → HasRank words counts rank → length words ≡ length counts → word < length words → get_or words word 0 < 18446744073709551616
    → ((below : ℕ → ℕ) → IsCounted counts below → below 0 ≡ 0 → left + below word ≡ rank)
    → ((below : ℕ → ℕ) → IsCounted counts below → below 0 ≡ 0 → rank < below (length counts) → rank < below (word + 1))
    → left < count_ones (get_or words word 0)
has_bit words counts rank word left ranked as_long inside fits sum less =
    let below = ranked.below in
    let next : 64 * (word + 1) ≡ 64 * word + 64 = omega arith in
    let under : rank < below (64 * (word + 1)) = less (λ w. below (64 * w)) ranked.held.counted ranked.none (omega (arith, ranked.less, ap (λ n. below (64 * n)) as_long)) in
    omega (arith, under, ap below next, ranked.held.in_word word 64 inside (omega arith), ones_below-whole (get_or words word 0) fits, sum (λ w. below (64 * w)) ranked.held.counted ranked.none)

-- it has that rank
pub held_rank : (words counts : List ℕ) (rank number word bit left : ℕ) (below : ℕ → ℕ) → IsHeld words counts below → below 0 ≡ 0 → number ≡ 64 * word + bit → word < length words → IsBitOfRank (get_or words word 0) left bit
    → ((below : ℕ → ℕ) → IsCounted counts below → below 0 ≡ 0 → left + below word ≡ rank)
    → (below number ≤ rank) × (rank < below (number + 1))
held_rank words counts rank number word bit left below held none is inside found sum =
    let at : below number ≡ below (64 * word) + ones_below (get_or words word 0) bit = held_below words counts number word bit below held is (omega (arith, found.inside)) inside in
    let next : below (number + 1) ≡ below (64 * word) + ones_below (get_or words word 0) (bit + 1) = held_below words counts (number + 1) word (bit + 1) below held (omega arith) (omega (arith, found.inside)) inside in
    let suc_bit : bit + 1 ≡ suc bit = omega arith in
    let more = ap (ones_below (get_or words word 0)) suc_bit ∙ ones_below-next (get_or words word 0) bit in
    let here = sum (λ w. below (64 * w)) held.counted none in
    (omega (arith, at, here, found.ranked), omega (arith, next, more, here, found.ranked, found.one))

-- the numbers below a size, as far as the words up to this one go
abbrev pub filled_below : ℕ → ℕ → ℕ → ℕ
filled_below size words number = min number (min size (64 * words))

pub IsHeld-filled : (words counts after : List ℕ) (size word many : ℕ) → IsHeld words counts (filled_below size word) → word < length words → many ≡ min (size - 64 * word) 64
    → ((below more : ℕ → ℕ) → IsCounted counts below → IsMore word many below more → IsCounted after more)
    → IsHeld (set words word (2 ^ many - 1)) after (filled_below size (word + 1))
IsHeld-filled words counts after size word many held inside is counted = record {
  counted = counted (λ w. filled_below size word (64 * w)) (λ w. filled_below size (word + 1) (64 * w)) held.counted
      (record { same = λ w low. omega arith; raised = λ w high. omega arith });
  in_word = λ w b in_set b_within. let w_inside : w < length words = omega (arith, in_set, length-set words word (2 ^ many - 1)) in elim (cases_order w word) [
    | inl here ↦
        let now : get_or (set words word (2 ^ many - 1)) w 0 ≡ 2 ^ many - 1 = ap (λ n. get_or (set words word (2 ^ many - 1)) n 0) here ∙ get_or-set_same words word (2 ^ many - 1) 0 inside in
        omega (arith, here, ap (λ n. ones_below n b) now, ones_below-first many b)
    | inr side ↦
        let other : get_or (set words word (2 ^ many - 1)) w 0 ≡ get_or words w 0 = get_or-set_other words word w (2 ^ many - 1) 0 (λ same. elim side [ inl less ↦ omega arith | inr above ↦ omega arith ]) in
        let ones = ap (λ n. ones_below n b) other in
        elim side [
          | inl less ↦ omega (arith, ones, held.in_word w b w_inside b_within)
          | inr above ↦ omega (arith, ones, held.in_word w b w_inside b_within)
        ]
  ];
}

-- a count and what is added to it fit
pub filled_fits : (words counts : List ℕ) (size word many place : ℕ) → IsHeld words counts (filled_below size word) → many ≡ min (size - 64 * word) 64 → size < 4294967296 → 0 < place → place < length counts → get_or counts place 0 + many < 4294967296
filled_fits words counts size word many place held is few positive inside = omega (arith, held.counted.at_middle place positive inside)
