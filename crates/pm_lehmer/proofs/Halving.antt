-- The tree of counts over the halves of an interval: what a walk down to one number keeps true.
use Rattle.std.proofs.Common.{◌≡◌, ◌≢◌, ℕ, zero, suc, ◌+◌, ◌-◌, ◌*◌, ◌/◌, ◌<◌, ◌≤◌, ◌⊎◌, List, length, get_or, refl, ap, sym, ◌∙◌, subst, arith, inl, inr, get_or-set_other, get_or-set_same}
use Rattle.std.specs.Prelude.{◌^◌, Bool, true, false, cond, nat_lt}
use Rattle.std.specs.Int.{IsPowerOfTwo}
use Rattle.std.proofs.Math.Nat.{pow-suc}
use Rattle.std.proofs.lemmas.List.{set-get_or}
use Rattle.std.proofs.Common.{pow_mono}
use Rattle.std.proofs.Math.ListN.{set, length-set}
use Rattle.std.proofs.lemmas.Bool.{lt-ltb, le-ltb, ltb-true, ltb-false, cases_lt, cases_order, cond-true, cond-false}
use Rattle.pm_lehmer.specs.steps.Counted.{start_from, start_of, IsCounted, IsMore}

start_from-left : (turns low high number : ℕ) → number < (low + high) / 2 → start_from (suc turns) low high number ≡ start_from turns low ((low + high) / 2) number
unfolding start_from
start_from-left turns low high number less = cond-true _ _ _ (lt-ltb number ((low + high) / 2) less)

start_from-right : (turns low high number : ℕ) → (low + high) / 2 < number → start_from (suc turns) low high number ≡ start_from turns ((low + high) / 2) high number
unfolding start_from
start_from-right turns low high number more =
    cond-false _ _ _ (le-ltb number ((low + high) / 2) (omega arith)) ∙ cond-true _ _ _ (lt-ltb ((low + high) / 2) number more)

start_from-middle : (turns low high : ℕ) → start_from (suc turns) low high ((low + high) / 2) ≡ low
unfolding start_from
start_from-middle turns low high =
    cond-false _ _ _ (le-ltb ((low + high) / 2) ((low + high) / 2) (omega arith)) ∙ cond-false _ _ _ (le-ltb ((low + high) / 2) ((low + high) / 2) (omega arith))

start_from-none : (low high number : ℕ) → start_from zero low high number ≡ low
unfolding start_from
start_from-none low high number = refl

-- a start lies in its interval and not above its middle
pub record IsStartWithin (low number start : ℕ) : Type 0 where
  pub above : low ≤ start
  pub up_to : start ≤ number

start_from-within : (turns low high number : ℕ) → low < number → number < high → IsStartWithin low number (start_from turns low high number)
start_from-within zero low high number above below = rw start_from-none (record { above = omega arith; up_to = omega arith })
start_from-within (suc turns) low high number above below =
    elim (cases_order number ((low + high) / 2)) [
      | inl is ↦
          let here : start_from (suc turns) low high number ≡ low = ap (start_from (suc turns) low high) is ∙ start_from-middle turns low high in
          rw here (record { above = omega arith; up_to = omega arith })
      | inr side ↦ elim side [
        | inl less ↦
            let there : IsStartWithin low number (start_from turns low ((low + high) / 2) number) = start_from-within turns low ((low + high) / 2) number above less in
            let is : start_from (suc turns) low high number ≡ start_from turns low ((low + high) / 2) number = start_from-left turns low high number less in
            record { above = omega (arith, is, there.above); up_to = omega (arith, is, there.up_to) }
        | inr more ↦
            let there : IsStartWithin ((low + high) / 2) number (start_from turns ((low + high) / 2) high number) = start_from-within turns ((low + high) / 2) high number more below in
            let is : start_from (suc turns) low high number ≡ start_from turns ((low + high) / 2) high number = start_from-right turns low high number more in
            record { above = omega (arith, is, there.above); up_to = omega (arith, is, there.up_to) }
      ]
    ]

-- the interval is one into which the whole is cut: it knows the starts of the numbers in it
pub record IsPart (size low high : ℕ) : Type 0 where
  pub turns : ℕ
  pub enough : high ≤ low + turns
  pub starts : (number : ℕ) → low < number → number < high → start_of size number ≡ start_from turns low high number

pub IsPart-whole : (size : ℕ) → IsPart size 0 size
unfolding start_of
IsPart-whole size = record { turns = size; enough = omega arith; starts = λ number above below. refl }

-- at an interval of two numbers or more there is a turn left
pub record HasTurn (size low high : ℕ) : Type 0 where
  pub turns : ℕ
  pub enough : high ≤ low + suc turns
  pub starts : (number : ℕ) → low < number → number < high → start_of size number ≡ start_from (suc turns) low high number

has_turn : (size low high turns : ℕ) → high ≤ low + turns → ((number : ℕ) → low < number → number < high → start_of size number ≡ start_from turns low high number) → low + 1 < high → HasTurn size low high
has_turn size low high zero enough starts wide = absurd (omega arith)
has_turn size low high (suc turns) enough starts wide = record { turns = turns; enough = enough; starts = starts }

HasTurn-part : (size low high : ℕ) → IsPart size low high → low + 1 < high → HasTurn size low high
HasTurn-part size low high part wide = has_turn size low high part.turns part.enough part.starts wide

pub IsPart-left : (size low high : ℕ) → IsPart size low high → low + 1 < high → IsPart size low ((low + high) / 2)
IsPart-left size low high part wide =
    let turn : HasTurn size low high = HasTurn-part size low high part wide in
    record {
      turns = turn.turns;
      enough = omega (arith, turn.enough);
      starts = λ number above below. turn.starts number above (omega arith) ∙ start_from-left turn.turns low high number below;
    }

pub IsPart-right : (size low high : ℕ) → IsPart size low high → low + 1 < high → IsPart size ((low + high) / 2) high
IsPart-right size low high part wide =
    let turn : HasTurn size low high = HasTurn-part size low high part wide in
    record {
      turns = turn.turns;
      enough = omega (arith, turn.enough);
      starts = λ number above below. turn.starts number (omega arith) below ∙ start_from-right turn.turns low high number above;
    }

pub start_of-middle : (size low high : ℕ) → IsPart size low high → low + 1 < high → start_of size ((low + high) / 2) ≡ low
start_of-middle size low high part wide =
    let turn : HasTurn size low high = HasTurn-part size low high part wide in
    turn.starts ((low + high) / 2) (omega arith) (omega arith) ∙ start_from-middle turn.turns low high

pub start_of-within : (size low high number : ℕ) → IsPart size low high → low < number → number < high → IsStartWithin low number (start_of size number)
start_of-within size low high number part above below =
    let is : start_of size number ≡ start_from part.turns low high number = part.starts number above below in
    rw is (start_from-within part.turns low high number above below)

-- the counts outside the interval are right
pub record IsSettled (size : ℕ) (counts : List ℕ) (low high : ℕ) (below : ℕ → ℕ) : Type 0 where
  pub at_middle : (number : ℕ) → 0 < number → number < size → (number ≤ low) ⊎ (high ≤ number) → get_or counts number 0 + below (start_of size number) ≡ below number

settled-left : (size : ℕ) (counts after : List ℕ) (low high : ℕ) (below : ℕ → ℕ) → IsPart size low high → low + 1 < high
    → IsSettled size counts low high below
    → ((number : ℕ) → number ≢ (low + high) / 2 → get_or after number 0 ≡ get_or counts number 0)
    → get_or after ((low + high) / 2) 0 + below low ≡ below ((low + high) / 2)
    → ((number : ℕ) → (low + high) / 2 < number → number < high → get_or counts number 0 + below (start_of size number) ≡ below number)
    → IsSettled size after low ((low + high) / 2) below
settled-left size counts after low high below part wide settled others middle aside = record {
  at_middle = λ number positive inside outside. elim (cases_order number ((low + high) / 2)) [
    | inl is ↦
        let P : ℕ → Type 0 = λ n. get_or after n 0 + below (start_of size n) ≡ below n in
        let start : start_of size ((low + high) / 2) ≡ low = start_of-middle size low high part wide in
        let here : P ((low + high) / 2) = ap (λ n. get_or after ((low + high) / 2) 0 + below n) start ∙ middle in
        subst P (sym is) here
    | inr side ↦ elim side [
      | inl less ↦
          let low_side : number ≤ low = elim outside [ inl low_one ↦ low_one | inr high_one ↦ absurd (omega arith) ] in
          let other : get_or after number 0 ≡ get_or counts number 0 = others number (λ same. omega arith) in
          omega (arith, other, settled.at_middle number positive inside (inl low_side))
      | inr more ↦
          let other : get_or after number 0 ≡ get_or counts number 0 = others number (λ same. omega arith) in
          elim (cases_lt number high) [
            | inl within ↦ omega (arith, other, aside number more within)
            | inr past ↦ omega (arith, other, settled.at_middle number positive inside (inr past))
          ]
    ]
  ];
}

settled-right : (size : ℕ) (counts : List ℕ) (low high : ℕ) (below : ℕ → ℕ) → IsPart size low high → low + 1 < high
    → IsSettled size counts low high below
    → get_or counts ((low + high) / 2) 0 + below low ≡ below ((low + high) / 2)
    → ((number : ℕ) → low < number → number < (low + high) / 2 → get_or counts number 0 + below (start_of size number) ≡ below number)
    → IsSettled size counts ((low + high) / 2) high below
settled-right size counts low high below part wide settled middle aside = record {
  at_middle = λ number positive inside outside. elim (cases_order number ((low + high) / 2)) [
    | inl is ↦
        let P : ℕ → Type 0 = λ n. get_or counts n 0 + below (start_of size n) ≡ below n in
        let start : start_of size ((low + high) / 2) ≡ low = start_of-middle size low high part wide in
        let here : P ((low + high) / 2) = ap (λ n. get_or counts ((low + high) / 2) 0 + below n) start ∙ middle in
        subst P (sym is) here
    | inr side ↦ elim side [
      | inl less ↦ elim (cases_lt low number) [
        | inl within ↦ aside number within less
        | inr before ↦ settled.at_middle number positive inside (inl before)
      ]
      | inr more ↦
          let past : high ≤ number = elim outside [ inl low_one ↦ absurd (omega arith) | inr high_one ↦ high_one ] in
          settled.at_middle number positive inside (inr past)
    ]
  ];
}

-- where a number is put in: the way to it has come down to the interval
pub record IsPutDownTo (before counts : List ℕ) (number many low high smaller : ℕ) : Type 0 where
  pub lower : low ≤ number
  pub upper : number < high
  pub ends : high ≤ length before
  pub same_length : length counts ≡ length before
  pub small : smaller ≤ low * 4294967296
  pub part : IsPart (length before) low high
  pub sums : (below : ℕ → ℕ) → IsCounted before below → smaller + below 0 ≡ below low
  pub kept : (place : ℕ) → low < place → place < high → get_or counts place 0 ≡ get_or before place 0
  pub changed : (below more : ℕ → ℕ) → IsCounted before below → IsMore number many below more → IsSettled (length before) counts low high more

pub IsPutDownTo-whole : (counts : List ℕ) (number many : ℕ) → number < length counts → IsPutDownTo counts counts number many 0 (length counts) 0
IsPutDownTo-whole counts number many inside = record {
  lower = omega arith;
  upper = inside;
  ends = omega arith;
  same_length = refl;
  small = omega arith;
  part = IsPart-whole (length counts);
  sums = λ below counted. omega arith;
  kept = λ place above under. refl;
  changed = λ below more counted one. record { at_middle = λ place positive inside outside. absurd (elim outside [ inl low_one ↦ omega arith | inr high_one ↦ omega arith ]) };
}

IsPutDownTo-left : (before counts : List ℕ) (number many low high smaller : ℕ) → IsPutDownTo before counts number many low high smaller → low + 1 < high → number < (low + high) / 2
    → IsPutDownTo before (set counts ((low + high) / 2) (get_or counts ((low + high) / 2) 0 + many)) number many low ((low + high) / 2) smaller
IsPutDownTo-left before counts number many low high smaller down wide less = record {
  lower = down.lower;
  upper = less;
  ends = omega (arith, down.ends);
  same_length = length-set counts _ _ ∙ down.same_length;
  small = down.small;
  part = IsPart-left (length before) low high down.part wide;
  sums = down.sums;
  kept = λ place above under. get_or-set_other counts ((low + high) / 2) place _ 0 (λ same. omega arith) ∙ down.kept place above (omega arith);
  changed = λ below more counted one.
      settled-left (length before) counts _ low high more down.part wide (down.changed below more counted one)
      (λ place other. get_or-set_other counts ((low + high) / 2) place _ 0 other)
      (let written : get_or (set counts ((low + high) / 2) (get_or counts ((low + high) / 2) 0 + many)) ((low + high) / 2) 0 ≡ get_or counts ((low + high) / 2) 0 + many = get_or-set_same counts ((low + high) / 2) _ 0 (omega (arith, down.same_length, down.ends)) in
      let start : start_of (length before) ((low + high) / 2) ≡ low = start_of-middle (length before) low high down.part wide in
      omega (arith, written, start, ap below start, down.kept ((low + high) / 2) (omega arith) (omega arith), counted.at_middle ((low + high) / 2) (omega arith) (omega (arith, down.ends)), one.same low down.lower, one.raised ((low + high) / 2) less))
      (λ place above under.
      let within : IsStartWithin ((low + high) / 2) place (start_of (length before) place) = start_of-within (length before) ((low + high) / 2) high place (IsPart-right (length before) low high down.part wide) above under in
      omega (arith, down.kept place (omega arith) under, counted.at_middle place (omega arith) (omega (arith, down.ends)), one.raised place (omega arith), one.raised (start_of (length before) place) (omega (arith, within.above))));
}

IsPutDownTo-right : (before counts : List ℕ) (number many low high smaller : ℕ) → IsPutDownTo before counts number many low high smaller → low + 1 < high → (low + high) / 2 ≤ number
    → get_or counts ((low + high) / 2) 0 < 4294967296
    → IsPutDownTo before counts number many ((low + high) / 2) high (smaller + get_or counts ((low + high) / 2) 0)
IsPutDownTo-right before counts number many low high smaller down wide more fits = record {
  lower = more;
  upper = down.upper;
  ends = down.ends;
  same_length = down.same_length;
  small = omega (arith, down.small);
  part = IsPart-right (length before) low high down.part wide;
  sums = λ below counted.
      let start : start_of (length before) ((low + high) / 2) ≡ low = start_of-middle (length before) low high down.part wide in
      omega (arith, ap below start, down.sums below counted, down.kept ((low + high) / 2) (omega arith) (omega arith), counted.at_middle ((low + high) / 2) (omega arith) (omega (arith, down.ends)));
  kept = λ place above under. down.kept place (omega arith) under;
  changed = λ below raised counted one.
      settled-right (length before) counts low high raised down.part wide (down.changed below raised counted one)
      (let start : start_of (length before) ((low + high) / 2) ≡ low = start_of-middle (length before) low high down.part wide in
      omega (arith, ap below start, down.kept ((low + high) / 2) (omega arith) (omega arith), counted.at_middle ((low + high) / 2) (omega arith) (omega (arith, down.ends)), one.same low down.lower, one.same ((low + high) / 2) more))
      (λ place above under.
      let within : IsStartWithin low place (start_of (length before) place) = start_of-within (length before) low high place down.part above (omega arith) in
      omega (arith, down.kept place above (omega arith), counted.at_middle place (omega arith) (omega (arith, down.ends)), one.same place (omega arith), one.same (start_of (length before) place) (omega (arith, within.up_to))));
}

-- a step down: to the first half where the number is below the middle, and else to the second
pub IsPutDownTo-step : (before counts : List ℕ) (number many low half smaller : ℕ) (first : Bool) → IsPutDownTo before counts number many low (low + 2 * half) smaller → 0 < half
    → first ≡ nat_lt number (low + half) → get_or counts (low + half) 0 < 4294967296
    → IsPutDownTo before (set counts (low + half) (get_or counts (low + half) 0 + cond first many 0)) number many (low + half - cond first half 0) (low + half - cond first half 0 + half)
    (smaller + (get_or counts (low + half) 0 - cond first (get_or counts (low + half) 0) 0))
IsPutDownTo-step before counts number many low half smaller true down wide is fits =
    let middle : (low + (low + 2 * half)) / 2 ≡ low + half = omega arith in
    let less : number < (low + (low + 2 * half)) / 2 = omega (arith, ltb-true number (low + half) (sym is)) in
    let start : low + half - half ≡ low = omega arith in
    let sum : smaller + (get_or counts (low + half) 0 - get_or counts (low + half) 0) ≡ smaller = omega arith in
    let left = IsPutDownTo-left before counts number many low (low + 2 * half) smaller down (omega arith) less in
    rw (start, sum) (rw middle at left)
IsPutDownTo-step before counts number many low half smaller false down wide is fits =
    let middle : (low + (low + 2 * half)) / 2 ≡ low + half = omega arith in
    let more : (low + (low + 2 * half)) / 2 ≤ number = omega (arith, ltb-false number (low + half) (sym is)) in
    let start : low + half - 0 ≡ low + half = omega arith in
    let end : low + half + half ≡ low + 2 * half = omega arith in
    let same : get_or counts (low + half) 0 + 0 ≡ get_or counts (low + half) 0 = omega arith in
    let whole : get_or counts (low + half) 0 - 0 ≡ get_or counts (low + half) 0 = omega arith in
    let right = IsPutDownTo-right before counts number many low (low + 2 * half) smaller down (omega arith) more (rw middle fits) in
    rw (start, end, same, whole, set-get_or counts (low + half) 0) (rw middle at right)

-- where the number of a rank is taken out: the way to it has come down to the interval
pub record IsTakenDownTo (before counts : List ℕ) (low high rank left : ℕ) : Type 0 where
  pub filled : low < high
  pub ends : high ≤ length before
  pub same_length : length counts ≡ length before
  pub small : left ≤ rank
  pub part : IsPart (length before) low high
  pub sums : (below : ℕ → ℕ) → IsCounted before below → below 0 ≡ 0 → left + below low ≡ rank
  pub upper : (below : ℕ → ℕ) → IsCounted before below → below 0 ≡ 0 → rank < below (length before) → rank < below high
  pub kept : (place : ℕ) → low < place → place < high → get_or counts place 0 ≡ get_or before place 0
  pub changed : (number : ℕ) (fewer more : ℕ → ℕ) → low ≤ number → number < high → IsCounted before more → IsMore number 1 fewer more → IsSettled (length before) counts low high fewer

pub IsTakenDownTo-whole : (counts : List ℕ) (rank : ℕ) → 0 < length counts → IsTakenDownTo counts counts 0 (length counts) rank rank
IsTakenDownTo-whole counts rank filled = record {
  filled = filled;
  ends = omega arith;
  same_length = refl;
  small = omega arith;
  part = IsPart-whole (length counts);
  sums = λ below counted none. omega arith;
  upper = λ below counted none less. less;
  kept = λ place above under. refl;
  changed = λ number fewer more lower upper counted one. record { at_middle = λ place positive inside outside. absurd (elim outside [ inl low_one ↦ omega arith | inr high_one ↦ omega arith ]) };
}

IsTakenDownTo-left : (before counts : List ℕ) (low high rank left : ℕ) → IsTakenDownTo before counts low high rank left → low + 1 < high → left < get_or counts ((low + high) / 2) 0
    → IsTakenDownTo before (set counts ((low + high) / 2) (get_or counts ((low + high) / 2) 0 - 1)) low ((low + high) / 2) rank left
IsTakenDownTo-left before counts low high rank left down wide less = record {
  filled = omega arith;
  ends = omega (arith, down.ends);
  same_length = length-set counts _ _ ∙ down.same_length;
  small = down.small;
  part = IsPart-left (length before) low high down.part wide;
  sums = down.sums;
  upper = λ below counted none under.
      let start : start_of (length before) ((low + high) / 2) ≡ low = start_of-middle (length before) low high down.part wide in
      omega (arith, less, ap below start, down.sums below counted none, down.kept ((low + high) / 2) (omega arith) (omega arith), counted.at_middle ((low + high) / 2) (omega arith) (omega (arith, down.ends)));
  kept = λ place above under. get_or-set_other counts ((low + high) / 2) place _ 0 (λ same. omega arith) ∙ down.kept place above (omega arith);
  changed = λ number fewer more lower upper counted one.
      settled-left (length before) counts _ low high fewer down.part wide (down.changed number fewer more lower (omega arith) counted one)
      (λ place other. get_or-set_other counts ((low + high) / 2) place _ 0 other)
      (let written : get_or (set counts ((low + high) / 2) (get_or counts ((low + high) / 2) 0 - 1)) ((low + high) / 2) 0 ≡ get_or counts ((low + high) / 2) 0 - 1 = get_or-set_same counts ((low + high) / 2) _ 0 (omega (arith, down.same_length, down.ends)) in
      let start : start_of (length before) ((low + high) / 2) ≡ low = start_of-middle (length before) low high down.part wide in
      omega (arith, less, written, ap more start, down.kept ((low + high) / 2) (omega arith) (omega arith), counted.at_middle ((low + high) / 2) (omega arith) (omega (arith, down.ends)), one.same low lower, one.raised ((low + high) / 2) upper))
      (λ place above under.
      let within : IsStartWithin ((low + high) / 2) place (start_of (length before) place) = start_of-within (length before) ((low + high) / 2) high place (IsPart-right (length before) low high down.part wide) above under in
      omega (arith, down.kept place (omega arith) under, counted.at_middle place (omega arith) (omega (arith, down.ends)), one.raised place (omega arith), one.raised (start_of (length before) place) (omega (arith, within.above))));
}

IsTakenDownTo-right : (before counts : List ℕ) (low high rank left : ℕ) → IsTakenDownTo before counts low high rank left → low + 1 < high → get_or counts ((low + high) / 2) 0 ≤ left
    → IsTakenDownTo before counts ((low + high) / 2) high rank (left - get_or counts ((low + high) / 2) 0)
IsTakenDownTo-right before counts low high rank left down wide reached = record {
  filled = omega arith;
  ends = down.ends;
  same_length = down.same_length;
  small = omega (arith, down.small);
  part = IsPart-right (length before) low high down.part wide;
  sums = λ below counted none.
      let start : start_of (length before) ((low + high) / 2) ≡ low = start_of-middle (length before) low high down.part wide in
      omega (arith, ap below start, down.sums below counted none, down.kept ((low + high) / 2) (omega arith) (omega arith), counted.at_middle ((low + high) / 2) (omega arith) (omega (arith, down.ends)));
  upper = down.upper;
  kept = λ place above under. down.kept place (omega arith) under;
  changed = λ number fewer more lower upper counted one.
      settled-right (length before) counts low high fewer down.part wide (down.changed number fewer more (omega arith) upper counted one)
      (let start : start_of (length before) ((low + high) / 2) ≡ low = start_of-middle (length before) low high down.part wide in
      omega (arith, ap more start, down.kept ((low + high) / 2) (omega arith) (omega arith), counted.at_middle ((low + high) / 2) (omega arith) (omega (arith, down.ends)), one.same low (omega arith), one.same ((low + high) / 2) lower))
      (λ place above under.
      let within : IsStartWithin low place (start_of (length before) place) = start_of-within (length before) low high place down.part above (omega arith) in
      omega (arith, down.kept place above (omega arith), counted.at_middle place (omega arith) (omega (arith, down.ends)), one.same place (omega arith), one.same (start_of (length before) place) (omega (arith, within.up_to))));
}

-- a step down: to the first half where fewer are left than it has, and else to the second
pub IsTakenDownTo-step : (before counts : List ℕ) (low half rank left : ℕ) (first : Bool) → IsTakenDownTo before counts low (low + 2 * half) rank left → 0 < half
    → first ≡ nat_lt left (get_or counts (low + half) 0)
    → IsTakenDownTo before (set counts (low + half) (get_or counts (low + half) 0 - cond first 1 0)) (low + half - cond first half 0) (low + half - cond first half 0 + half) rank
    (left + cond first (get_or counts (low + half) 0) 0 - get_or counts (low + half) 0)
IsTakenDownTo-step before counts low half rank left true down wide is =
    let middle : (low + (low + 2 * half)) / 2 ≡ low + half = omega arith in
    let less : left < get_or counts ((low + (low + 2 * half)) / 2) 0 = rw middle (ltb-true left (get_or counts (low + half) 0) (sym is)) in
    let start : low + half - half ≡ low = omega arith in
    let same : left + get_or counts (low + half) 0 - get_or counts (low + half) 0 ≡ left = omega arith in
    let left_half = IsTakenDownTo-left before counts low (low + 2 * half) rank left down (omega arith) less in
    rw (start, same) (rw middle at left_half)
IsTakenDownTo-step before counts low half rank left false down wide is =
    let middle : (low + (low + 2 * half)) / 2 ≡ low + half = omega arith in
    let reached : get_or counts ((low + (low + 2 * half)) / 2) 0 ≤ left = rw middle (ltb-false left (get_or counts (low + half) 0) (sym is)) in
    let start : low + half - 0 ≡ low + half = omega arith in
    let end : low + half + half ≡ low + 2 * half = omega arith in
    let same : left + 0 ≡ left = omega arith in
    let whole : get_or counts (low + half) 0 - 0 ≡ get_or counts (low + half) 0 = omega arith in
    let right_half = IsTakenDownTo-right before counts low (low + 2 * half) rank left down (omega arith) reached in
    rw (start, end, same, whole, set-get_or counts (low + half) 0) (rw middle at right_half)

-- a power of two above 1 has a half, which is one too
pub record IsHalved (width : ℕ) : Type 0 where
  pub whole : width ≡ 2 * (width / 2)
  pub positive : 0 < width / 2
  pub power : IsPowerOfTwo (width / 2)

halved_power : (width power : ℕ) → width ≡ 2 ^ power → 1 < width → IsHalved width
halved_power width zero is wide = absurd (omega (arith, is))
halved_power width (suc power) is wide = record { whole = omega (arith, is, pow-suc 2 power); positive = omega arith; power = (power, omega (arith, is, pow-suc 2 power)) }

pub halved : (width : ℕ) → IsPowerOfTwo width → 1 < width → IsHalved width
halved width power wide = halved_power width power.0 power.1 wide

-- the least power of two from a number below 2^32 on
power_fits : (width power : ℕ) → width ≡ 2 ^ power → width / 2 < 4294967296 → width ≤ 4294967296
power_fits width power is low = elim (cases_lt 32 power) [
  | inl high ↦ absurd (omega (arith, pow_mono {i = 33} {j = power} (omega arith)))
  | inr within ↦ omega (arith, pow_mono {i = power} {j = 32} (omega arith))
]

pub IsPowerOfTwo-fits : (width : ℕ) → IsPowerOfTwo width → width / 2 < 4294967296 → width ≤ 4294967296
IsPowerOfTwo-fits width power low = power_fits width power.0 power.1 low
