-- Codes and the permutations that have them.
use Rattle.std.proofs.Common.{◌≡◌, ◌≢◌, ℕ, zero, suc, ◌+◌, ◌-◌, ◌*◌, ◌<◌, ◌≤◌, min, List, [], ◌∷◌, ◌++◌, length, get_or, take, refl, ap, sym, ◌∙◌, arith, inl, inr, append_assoc, length-append}
use Rattle.std.proofs.Math.ListN.{set}
use Rattle.std.proofs.lemmas.Bool.{cases_lt, cases_order, lt-ltb, le-ltb, cond-true, cond-false}
use Rattle.std.proofs.Math.Bool.{cond}
use Rattle.std.specs.Prelude.{nat_lt}
use Rattle.std.proofs.lemmas.List.{take_more, take_more_set, append-nil, take_all, get_or_append_left, get_or_push, length-take-le}
use Rattle.pm_perm.specs.Permutation.{IsPermutationList}
use Rattle.pm_lehmer.specs.Lehmer.{count_below, code_of, IsArrangementCode, IsArrangementOf}
use Rattle.pm_lehmer.specs.steps.Counted.{IsMore}
use Rattle.pm_lehmer.specs.steps.Held.{IsHeld, HasRank}
use Rattle.pm_lehmer.proofs.Held.{IsHeld-same}
use Rattle.pm_lehmer.proofs.CountBelow.{count_below-nil, count_below-smaller, count_below-other, count_below-le-length, count_below-append, count_below-mono, count_below-stands, count_below-step, HasDifferentEntries}

pub length-code_of : (entries : List ℕ) → length (code_of entries) ≡ length entries
length-code_of [] = refl
length-code_of (entry ∷ later) = ap suc (length-code_of later)

-- a code of a list can be a code
code_of-below : (entries : List ℕ) (place : ℕ) → place < length (code_of entries) → get_or (code_of entries) place 0 + place < length (code_of entries)
code_of-below [] place inside = absurd (omega arith)
code_of-below (entry ∷ later) zero inside = omega (arith, count_below-le-length entry later, length-code_of later)
code_of-below (entry ∷ later) (suc place) inside = omega (arith, code_of-below later place (omega arith))

pub code_of-is_code : (entries : List ℕ) → IsArrangementCode (code_of entries)
code_of-is_code entries = record { below = code_of-below entries }

pub length-arrangement : (code arrangement : List ℕ) → IsArrangementOf code arrangement → length arrangement ≡ length code
length-arrangement code arrangement arranged = sym (length-code_of arrangement) ∙ ap length arranged.has_code

-- below each number the lists have as many entries
pub record CountsAlike (first second : List ℕ) : Type 0 where
  pub same : (number : ℕ) → count_below number first ≡ count_below number second

CountsAlike-tail : (first second : ℕ) (first_later second_later : List ℕ) → first ≡ second → CountsAlike (first ∷ first_later) (second ∷ second_later) → CountsAlike first_later second_later
CountsAlike-tail first second first_later second_later is alike = record {
  same = λ number. elim (cases_lt first number) [
    | inl less ↦ omega (arith, alike.same number, count_below-smaller number first first_later less, count_below-smaller number second second_later (omega arith))
    | inr other ↦ omega (arith, alike.same number, count_below-other number first first_later other, count_below-other number second second_later (omega arith))
  ];
}

-- of lists with the same counts only one has a code
pub code_of-injective : (first second : List ℕ) → CountsAlike first second → code_of first ≡ code_of second → first ≡ second
code_of-injective [] [] alike same = refl
code_of-injective [] (head ∷ later) alike same = absurd (cc)
code_of-injective (head ∷ later) [] alike same = absurd (cc)
code_of-injective (head ∷ later) (other ∷ others) alike same =
    let heads : count_below head later ≡ count_below other others = cc in
    let tails : code_of later ≡ code_of others = cc in
    elim (cases_order head other) [
      | inl is ↦
          let rest : later ≡ others = code_of-injective later others (CountsAlike-tail head other later others is alike) tails in
          cc
      | inr side ↦ elim side [
        | inl less ↦ absurd (omega (arith, heads, alike.same other, count_below-smaller other head later less, count_below-other other other others (omega arith), count_below-mono head other later (omega arith)))
        | inr more ↦ absurd (omega (arith, heads, alike.same head, count_below-other head head later (omega arith), count_below-smaller head other others more, count_below-mono other head others (omega arith)))
      ]
    ]

pub count_below-zero : (entries : List ℕ) → count_below 0 entries ≡ 0
count_below-zero [] = count_below-nil 0
count_below-zero (entry ∷ later) = omega (arith, count_below-other 0 entry later (omega arith), count_below-zero later)

count_below-up : (start steps : ℕ) (entries : List ℕ) → HasDifferentEntries entries → count_below (start + steps) entries ≤ count_below start entries + steps
count_below-up start zero entries different =
    let e : start + 0 ≡ start = omega arith in
    omega (arith, ap (λ n. count_below n entries) e)
count_below-up start (suc steps) entries different =
    let e : start + suc steps ≡ suc (start + steps) = omega arith in
    omega (arith, ap (λ n. count_below n entries) e, count_below-step (start + steps) entries different, count_below-up start steps entries different)

pub count_below-le : (number : ℕ) (entries : List ℕ) → HasDifferentEntries entries → count_below number entries ≤ number
count_below-le number entries different =
    let e : 0 + number ≡ number = omega arith in
    omega (arith, ap (λ n. count_below n entries) e, count_below-zero entries, count_below-up 0 number entries different)

count_below-all : (bound : ℕ) (entries : List ℕ) → ((place : ℕ) → place < length entries → get_or entries place 0 < bound) → count_below bound entries ≡ length entries
count_below-all bound [] under = count_below-nil bound
count_below-all bound (entry ∷ later) under =
    omega (arith, count_below-smaller bound entry later (under 0 (omega arith)), count_below-all bound later (λ place inside. under (suc place) (omega arith)))

pub HasDifferentEntries-permutation : (entries : List ℕ) → IsPermutationList entries → HasDifferentEntries entries
HasDifferentEntries-permutation entries permutation = record { injective = permutation.injective }

-- below a number up to the length a permutation has as many entries as the number says
pub count_below-permutation : (number : ℕ) (entries : List ℕ) → IsPermutationList entries → number ≤ length entries → count_below number entries ≡ number
count_below-permutation number entries permutation within =
    let different : HasDifferentEntries entries = HasDifferentEntries-permutation entries permutation in
    let e : number + (length entries - number) ≡ length entries = omega arith in
    omega (arith, ap (λ n. count_below n entries) e, count_below-le number entries different, count_below-up number (length entries - number) entries different, count_below-all (length entries) entries permutation.stays)

CountsAlike-permutations : (first second : List ℕ) → IsPermutationList first → IsPermutationList second → length first ≡ length second → CountsAlike first second
CountsAlike-permutations first second one two same_length = record {
  same = λ number. elim (cases_lt number (length first)) [
    | inl less ↦ omega (arith, count_below-permutation number first one (omega arith), count_below-permutation number second two (omega arith))
    | inr past ↦ omega (arith, count_below-all number first (λ place inside. omega (arith, one.stays place inside)), count_below-all number second (λ place inside. omega (arith, two.stays place inside)))
  ];
}

-- a code has one permutation
pub IsArrangementOf-unique : (code first second : List ℕ) → IsArrangementOf code first → IsArrangementOf code second → first ≡ second
IsArrangementOf-unique code first second one two =
    let codes : code_of first ≡ code_of second = one.has_code ∙ sym two.has_code in
    code_of-injective first second
    (CountsAlike-permutations first second one.is_permutation two.is_permutation (omega (arith, length-code_of first, length-code_of second, ap length codes)))
    codes

-- how many numbers below this one are not in the list
unfoldable pub unused_below : List ℕ → ℕ → ℕ
unused_below entries number = number - count_below number entries

pub unused_below-is : (entries : List ℕ) (number : ℕ) → unused_below entries number ≡ number - count_below number entries
unfolding unused_below
unused_below-is entries number = refl

pub unused_below-zero : (entries : List ℕ) → unused_below entries 0 ≡ 0
unused_below-zero entries = omega (arith, unused_below-is entries 0)

-- the lists together have as many entries below each number up to the size as the number says
pub record Completes (size : ℕ) (prefix back : List ℕ) : Type 0 where
  pub counts : (number : ℕ) → number ≤ size → count_below number prefix + count_below number back ≡ number

-- how many numbers below this one and the size are not in the list
abbrev pub left_below : ℕ → List ℕ → ℕ → ℕ
left_below size entries number = unused_below entries (min number size)

-- the prefix of the arrangement that is made, and the numbers that are left
pub record IsArrangedUpTo (code words counts prefix : List ℕ) : Type 0 where
  pub held : IsHeld words counts (left_below (length code) prefix)
  pub different : HasDifferentEntries prefix
  pub in_range : (place : ℕ) → place < length prefix → get_or prefix place 0 < length code
  pub coded : (back : List ℕ) → Completes (length code) prefix back → code_of (prefix ++ back) ≡ take (length prefix) code ++ code_of back

pub IsArrangedUpTo-none : (code words counts prefix : List ℕ) → prefix ≡ [] → IsHeld words counts (λ number. min number (length code)) → IsArrangedUpTo code words counts prefix
IsArrangedUpTo-none code words counts prefix none held = rw none (record {
  held = IsHeld-same words counts (λ number. min number (length code)) (left_below (length code) []) held (λ number. omega (arith, unused_below-is [] (min number (length code)), count_below-nil (min number (length code))));
  different = record { injective = λ first second in_first in_second same. absurd (omega arith) };
  in_range = λ place inside. absurd (omega arith);
  coded = λ back completes. refl;
})

count_below-push : (number entry : ℕ) (prefix : List ℕ) → count_below number (prefix ++ entry ∷ []) ≡ count_below number prefix + count_below number (entry ∷ [])
count_below-push number entry prefix = count_below-append number prefix (entry ∷ [])

-- the number of the rank is not in the prefix, and has the rank
record IsChosen (prefix : List ℕ) (rank number : ℕ) : Type 0 where
  unused : count_below (suc number) prefix ≡ count_below number prefix
  has_rank : count_below number prefix + rank ≡ number

chosen : (prefix : List ℕ) (rank number : ℕ) → HasDifferentEntries prefix → unused_below prefix number ≤ rank → rank < unused_below prefix (number + 1) → IsChosen prefix rank number
chosen prefix rank number different low high =
    let e : number + 1 ≡ suc number = omega arith in
    let up = count_below-mono number (suc number) prefix (omega arith) in
    let within = count_below-le number prefix different in
    let next = ap (unused_below prefix) e in
    record {
      unused = omega (arith, unused_below-is prefix number, unused_below-is prefix (suc number));
      has_rank = omega (arith, unused_below-is prefix number, unused_below-is prefix (suc number));
    }

absent_in : (prefix : List ℕ) (rank number : ℕ) → IsChosen prefix rank number → (place : ℕ) → place < length prefix → get_or prefix place 0 ≢ number
absent_in prefix rank number is_chosen place inside same = omega (arith, is_chosen.unused, count_below-stands number place prefix inside same)

different-push : (prefix : List ℕ) (number : ℕ) → HasDifferentEntries prefix → ((place : ℕ) → place < length prefix → get_or prefix place 0 ≢ number) → HasDifferentEntries (prefix ++ number ∷ [])
different-push prefix number different absent = record {
  injective = λ first second in_first in_second same.
      let long : length (prefix ++ number ∷ []) ≡ length prefix + 1 = length-append prefix (number ∷ []) in
      elim (cases_lt first (length prefix)) [
        | inl first_old ↦ elim (cases_lt second (length prefix)) [
          | inl second_old ↦ different.injective first second first_old second_old (sym (get_or_append_left prefix (number ∷ []) 0 first first_old) ∙ same ∙ get_or_append_left prefix (number ∷ []) 0 second second_old)
          | inr second_new ↦ absurd (absent first first_old (sym (get_or_append_left prefix (number ∷ []) 0 first first_old) ∙ same ∙ get_or_push prefix number 0 second (omega arith)))
        ]
        | inr first_new ↦ elim (cases_lt second (length prefix)) [
          | inl second_old ↦ absurd (absent second second_old (sym (get_or_append_left prefix (number ∷ []) 0 second second_old) ∙ sym same ∙ get_or_push prefix number 0 first (omega arith)))
          | inr second_new ↦ omega arith
        ]
      ];
}

in_range-push : (size : ℕ) (prefix : List ℕ) (number : ℕ) → ((place : ℕ) → place < length prefix → get_or prefix place 0 < size) → number < size → (place : ℕ) → place < length (prefix ++ number ∷ []) → get_or (prefix ++ number ∷ []) place 0 < size
in_range-push size prefix number under less place inside =
    let long : length (prefix ++ number ∷ []) ≡ length prefix + 1 = length-append prefix (number ∷ []) in
    elim (cases_lt place (length prefix)) [
      | inl old ↦ omega (arith, get_or_append_left prefix (number ∷ []) 0 place old, under place old)
      | inr new ↦ omega (arith, get_or_push prefix number 0 place (omega arith))
    ]

one_more_used : (prefix : List ℕ) (rank number : ℕ) → HasDifferentEntries prefix → IsChosen prefix rank number → HasDifferentEntries (prefix ++ number ∷ []) → IsMore number 1 (unused_below (prefix ++ number ∷ [])) (unused_below prefix)
one_more_used prefix rank number different is_chosen pushed = record {
  same = λ place low. omega (arith, unused_below-is prefix place, unused_below-is (prefix ++ number ∷ []) place, count_below-push place number prefix, count_below-other place number [] low, count_below-nil place);
  raised = λ place high. omega (arith, unused_below-is prefix place, unused_below-is (prefix ++ number ∷ []) place, count_below-push place number prefix, count_below-smaller place number [] high, count_below-nil place, count_below-le place (prefix ++ number ∷ []) pushed);
}

coded-push : (code prefix : List ℕ) (rank number : ℕ) → length prefix < length code → number < length code → get_or code (length prefix) 0 ≡ rank → IsChosen prefix rank number
    → ((back : List ℕ) → Completes (length code) prefix back → code_of (prefix ++ back) ≡ take (length prefix) code ++ code_of back)
    → (back : List ℕ) → Completes (length code) (prefix ++ number ∷ []) back → code_of ((prefix ++ number ∷ []) ++ back) ≡ take (length (prefix ++ number ∷ [])) code ++ code_of back
coded-push code prefix rank number inside less is is_chosen coded back completes =
    let longer : Completes (length code) prefix (number ∷ back) = record {
      counts = λ bound within. elim (cases_lt number bound) [
        | inl high ↦ omega (arith, completes.counts bound within, count_below-push bound number prefix, count_below-smaller bound number [] high, count_below-smaller bound number back high, count_below-nil bound)
        | inr low ↦ omega (arith, completes.counts bound within, count_below-push bound number prefix, count_below-other bound number [] low, count_below-other bound number back low, count_below-nil bound)
      ];
    } in
    let head : count_below number back ≡ rank = omega (arith, is_chosen.has_rank, completes.counts number (omega arith), count_below-push number number prefix, count_below-other number number [] (omega arith), count_below-nil number) in
    let long : length (prefix ++ number ∷ []) ≡ length prefix + 1 = length-append prefix (number ∷ []) in
    let more = take_more code (length prefix) 0 inside in
    ap code_of (append_assoc prefix (number ∷ []) back)
    ∙ coded (number ∷ back) longer
    ∙ ap (λ n. take (length prefix) code ++ n ∷ code_of back) (head ∙ sym is)
    ∙ sym (append_assoc (take (length prefix) code) (get_or code (length prefix) 0 ∷ []) (code_of back))
    ∙ ap (λ t. t ++ code_of back) (sym more)
    ∙ ap (λ n. take n code ++ code_of back) (sym long)

one_more_left : (size number : ℕ) (prefix back : List ℕ) → number < size → IsMore number 1 (unused_below back) (unused_below prefix) → IsMore number 1 (left_below size back) (left_below size prefix)
one_more_left size number prefix back inside one = record {
  same = λ place low. one.same (min place size) (omega arith);
  raised = λ place high. one.raised (min place size) (omega arith);
}

-- the number is in the range: from the size on nothing is left
pub left_in_range : (size rank number : ℕ) (prefix : List ℕ) → left_below size prefix number ≤ rank → rank < left_below size prefix (number + 1) → number < size
left_in_range size rank number prefix low high = elim (cases_lt number size) [
  | inl inside ↦ inside
  | inr past ↦
      let here : min number size ≡ min (number + 1) size = omega arith in
      absurd (omega (arith, ap (unused_below prefix) here))
]

-- one number more in the arrangement, by what `remove` says
IsArrangedUpTo-more : (code words counts after_words after_counts prefix : List ℕ) (number : ℕ) → IsArrangedUpTo code words counts prefix → length prefix < length code → number < length code
    → (unused_below prefix number ≤ get_or code (length prefix) 0) × (get_or code (length prefix) 0 < unused_below prefix (number + 1))
    → ((fewer : ℕ → ℕ) → IsMore number 1 fewer (left_below (length code) prefix) → IsHeld after_words after_counts fewer)
    → IsArrangedUpTo code after_words after_counts (prefix ++ number ∷ [])
IsArrangedUpTo-more code words counts after_words after_counts prefix number arranged inside less ranked held =
    let is_chosen : IsChosen prefix (get_or code (length prefix) 0) number = chosen prefix (get_or code (length prefix) 0) number arranged.different ranked.0 ranked.1 in
    let different : HasDifferentEntries (prefix ++ number ∷ []) = different-push prefix number arranged.different (absent_in prefix (get_or code (length prefix) 0) number is_chosen) in
    let one = one_more_used prefix (get_or code (length prefix) 0) number arranged.different is_chosen different in
    record {
      held = held (left_below (length code) (prefix ++ number ∷ [])) (one_more_left (length code) number prefix (prefix ++ number ∷ []) less one);
      different = different;
      in_range = in_range-push (length code) prefix number arranged.in_range less;
      coded = coded-push code prefix (get_or code (length prefix) 0) number inside less refl is_chosen arranged.coded;
    }

rank_below : (code prefix : List ℕ) → IsArrangementCode code → length prefix < length code → get_or code (length prefix) 0 < unused_below prefix (length code)
rank_below code prefix is_code inside =
    omega (arith, is_code.below (length prefix) inside, unused_below-is prefix (length code), count_below-le-length (length code) prefix)

left_below-zero : (size : ℕ) (prefix : List ℕ) → left_below size prefix 0 ≡ 0
left_below-zero size prefix =
    let zero_is : min 0 size ≡ 0 = omega arith in
    ap (unused_below prefix) zero_is ∙ unused_below-zero prefix

-- what `remove` asks of the rank
pub has_rank : (code words counts arrangement : List ℕ) (place : ℕ) → IsArrangedUpTo code words counts (take place arrangement) → IsArrangementCode code → place < length code → length arrangement ≡ length code → length code ≤ 64 * length words
    → HasRank words counts (get_or code place 0)
has_rank code words counts arrangement place arranged is_code inside same_length enough =
    let prefix = take place arrangement in
    let long : length (take place arrangement) ≡ place = length-take-le place arrangement (omega arith) in
    let whole : min (64 * length words) (length code) ≡ length code = omega arith in
    record {
      below = left_below (length code) prefix;
      held = arranged.held;
      none = left_below-zero (length code) prefix;
      less = omega (arith, ap (λ n. get_or code n 0) long, ap (unused_below prefix) whole, rank_below code prefix is_code (omega (arith, long)));
    }

-- at the end the arrangement is whole
IsArrangedUpTo-whole : (code words counts prefix : List ℕ) → IsArrangedUpTo code words counts prefix → length prefix ≡ length code → IsArrangementOf code prefix
IsArrangedUpTo-whole code words counts prefix arranged same_length =
    let permutation : IsPermutationList prefix = record { stays = λ place inside. omega (arith, arranged.in_range place inside); injective = arranged.different.injective } in
    let completes : Completes (length code) prefix [] = record { counts = λ number within. omega (arith, count_below-permutation number prefix permutation (omega arith), count_below-nil number) } in
    record {
      is_permutation = permutation;
      has_code = ap code_of (sym (append-nil prefix)) ∙ arranged.coded [] completes ∙ append-nil _ ∙ take_all (length prefix) code (omega arith);
    }

-- the number that `remove` finds is in the range
pub number_in_range : (code words counts arrangement : List ℕ) (place number : ℕ) → IsArrangedUpTo code words counts (take place arrangement)
    → ((below : ℕ → ℕ) → IsHeld words counts below → below 0 ≡ 0 → (below number ≤ get_or code place 0) × (get_or code place 0 < below (number + 1)))
    → number < length code
number_in_range code words counts arrangement place number arranged ranked =
    let prefix = take place arrangement in
    let found = ranked (left_below (length code) prefix) arranged.held (left_below-zero (length code) prefix) in
    left_in_range (length code) (get_or code place 0) number prefix found.0 found.1

-- a step of the loop that writes the arrangement
pub IsArrangedUpTo-step : (code words counts after_words after_counts arrangement : List ℕ) (place number : ℕ) → IsArrangedUpTo code words counts (take place arrangement)
    → place < length code → length arrangement ≡ length code
    → ((below : ℕ → ℕ) → IsHeld words counts below → below 0 ≡ 0 → (below number ≤ get_or code place 0) × (get_or code place 0 < below (number + 1)))
    → ((fewer more : ℕ → ℕ) → IsHeld words counts more → IsMore number 1 fewer more → IsHeld after_words after_counts fewer)
    → IsArrangedUpTo code after_words after_counts (take (place + 1) (set arrangement place number))
IsArrangedUpTo-step code words counts after_words after_counts arrangement place number arranged inside same_length ranked held =
    let prefix = take place arrangement in
    let long : length (take place arrangement) ≡ place = length-take-le place arrangement (omega arith) in
    let at : get_or code (length prefix) 0 ≡ get_or code place 0 = ap (λ n. get_or code n 0) long in
    let less : number < length code = number_in_range code words counts arrangement place number arranged ranked in
    let found = ranked (left_below (length code) prefix) arranged.held (left_below-zero (length code) prefix) in
    let here : min number (length code) ≡ number = omega arith in
    let next : min (number + 1) (length code) ≡ number + 1 = omega arith in
    let more : IsArrangedUpTo code after_words after_counts (take place arrangement ++ number ∷ []) =
    IsArrangedUpTo-more code words counts after_words after_counts prefix number arranged (omega (arith, long)) less
    (omega (arith, at, ap (unused_below prefix) here, found.0), omega (arith, at, ap (unused_below prefix) next, found.1))
    (λ fewer one. held fewer (left_below (length code) prefix) arranged.held one) in
    let written : take (place + 1) (set arrangement place number) ≡ take place arrangement ++ number ∷ [] = take_more_set arrangement place number (omega arith) in
    rw written more

pub IsArrangedUpTo-all : (code words counts arrangement : List ℕ) → IsArrangedUpTo code words counts (take (length code) arrangement) → length arrangement ≡ length code → IsArrangementOf code arrangement
IsArrangedUpTo-all code words counts arrangement arranged same_length =
    let all : take (length code) arrangement ≡ arrangement = take_all (length code) arrangement (omega arith) in
    IsArrangedUpTo-whole code words counts arrangement (rw all at arranged) same_length

-- the permutation of a code: the first entry, and then the permutation of the rest with the entries from the first on raised
raised : ℕ → ℕ → ℕ
raised first number = cond (nat_lt number first) number (suc number)

raised-low : (first number : ℕ) → number < first → raised first number ≡ number
unfolding raised
raised-low first number less = cond-true _ _ _ (lt-ltb number first less)

raised-high : (first number : ℕ) → first ≤ number → raised first number ≡ suc number
unfolding raised
raised-high first number more = cond-false _ _ _ (le-ltb number first more)

raised_all : ℕ → List ℕ → List ℕ
raised_all first [] = []
raised_all first (number ∷ later) = raised first number ∷ raised_all first later

raised_all-nil : (first : ℕ) → raised_all first [] ≡ []
unfolding raised_all
raised_all-nil first = refl

raised_all-cons : (first number : ℕ) (later : List ℕ) → raised_all first (number ∷ later) ≡ raised first number ∷ raised_all first later
unfolding raised_all
raised_all-cons first number later = refl

length-raised_all : (first : ℕ) (later : List ℕ) → length (raised_all first later) ≡ length later
length-raised_all first [] = ap length (raised_all-nil first)
length-raised_all first (number ∷ later) = ap length (raised_all-cons first number later) ∙ ap suc (length-raised_all first later)

get_or-raised_all : (first place : ℕ) (later : List ℕ) → place < length later → get_or (raised_all first later) place 0 ≡ raised first (get_or later place 0)
get_or-raised_all first place [] inside = absurd (omega arith)
get_or-raised_all first zero (number ∷ later) inside = ap (λ l. get_or l 0 0) (raised_all-cons first number later)
get_or-raised_all first (suc place) (number ∷ later) inside = ap (λ l. get_or l (suc place) 0) (raised_all-cons first number later) ∙ get_or-raised_all first place later (omega arith)

-- raising keeps the order
record RaisedKeeps (first number bound : ℕ) : Type 0 where
  less : number < bound → raised first number < raised first bound
  other : bound ≤ number → raised first bound ≤ raised first number

raised_keeps : (first number bound : ℕ) → RaisedKeeps first number bound
raised_keeps first number bound =
    elim (cases_lt number first) [
      | inl number_low ↦ elim (cases_lt bound first) [
        | inl bound_low ↦ record { less = λ h. omega (arith, raised-low first number number_low, raised-low first bound bound_low); other = λ h. omega (arith, raised-low first number number_low, raised-low first bound bound_low) }
        | inr bound_high ↦ record { less = λ h. omega (arith, raised-low first number number_low, raised-high first bound bound_high); other = λ h. omega (arith, raised-low first number number_low, raised-high first bound bound_high) }
      ]
      | inr number_high ↦ elim (cases_lt bound first) [
        | inl bound_low ↦ record { less = λ h. omega (arith, raised-high first number number_high, raised-low first bound bound_low); other = λ h. omega (arith, raised-high first number number_high, raised-low first bound bound_low) }
        | inr bound_high ↦ record { less = λ h. omega (arith, raised-high first number number_high, raised-high first bound bound_high); other = λ h. omega (arith, raised-high first number number_high, raised-high first bound bound_high) }
      ]
    ]

count_below-raised_all : (first bound : ℕ) (later : List ℕ) → count_below (raised first bound) (raised_all first later) ≡ count_below bound later
count_below-raised_all first bound [] = ap (count_below (raised first bound)) (raised_all-nil first) ∙ count_below-nil _ ∙ sym (count_below-nil bound)
count_below-raised_all first bound (number ∷ later) =
    let keeps : RaisedKeeps first number bound = raised_keeps first number bound in
    let cons = ap (count_below (raised first bound)) (raised_all-cons first number later) in
    elim (cases_lt number bound) [
      | inl is_less ↦ cons ∙ count_below-smaller _ _ (raised_all first later) (keeps.less is_less) ∙ ap suc (count_below-raised_all first bound later) ∙ sym (count_below-smaller bound number later is_less)
      | inr not_less ↦ cons ∙ count_below-other _ _ (raised_all first later) (keeps.other not_less) ∙ count_below-raised_all first bound later ∙ sym (count_below-other bound number later not_less)
    ]

count_below-raised_first : (first : ℕ) (later : List ℕ) → count_below first (raised_all first later) ≡ count_below first later
count_below-raised_first first [] = ap (count_below first) (raised_all-nil first)
count_below-raised_first first (number ∷ later) =
    let cons = ap (count_below first) (raised_all-cons first number later) in
    elim (cases_lt number first) [
      | inl is_less ↦ cons ∙ count_below-smaller first _ (raised_all first later) (omega (arith, raised-low first number is_less)) ∙ ap suc (count_below-raised_first first later) ∙ sym (count_below-smaller first number later is_less)
      | inr not_less ↦ cons ∙ count_below-other first _ (raised_all first later) (omega (arith, raised-high first number not_less)) ∙ count_below-raised_first first later ∙ sym (count_below-other first number later not_less)
    ]

code_of-raised_all : (first : ℕ) (later : List ℕ) → code_of (raised_all first later) ≡ code_of later
code_of-raised_all first [] = ap code_of (raised_all-nil first)
code_of-raised_all first (number ∷ later) =
    ap code_of (raised_all-cons first number later)
    ∙ ap (λ n. n ∷ code_of (raised_all first later)) (count_below-raised_all first number later)
    ∙ ap (λ c. count_below number later ∷ c) (code_of-raised_all first later)

raised-different : (first one two : ℕ) → raised first one ≡ raised first two → one ≡ two
raised-different first one two same =
    let keeps : RaisedKeeps first one two = raised_keeps first one two in
    let back : RaisedKeeps first two one = raised_keeps first two one in
    elim (cases_order one two) [
      | inl is ↦ is
      | inr side ↦ elim side [ inl is_less ↦ absurd (omega (arith, same, keeps.less is_less)) | inr more ↦ absurd (omega (arith, same, back.less more)) ]
    ]

raised-not_first : (first number : ℕ) → raised first number ≢ first
raised-not_first first number = λ same. elim (cases_lt number first) [
  | inl is_less ↦ omega (arith, same, raised-low first number is_less)
  | inr not_less ↦ omega (arith, same, raised-high first number not_less)
]

raised-le : (first number : ℕ) → raised first number ≤ suc number
raised-le first number = elim (cases_lt number first) [
  | inl is_less ↦ omega (arith, raised-low first number is_less)
  | inr not_less ↦ omega (arith, raised-high first number not_less)
]

permutation-raised : (first : ℕ) (later : List ℕ) → first ≤ length later → IsPermutationList later → IsPermutationList (first ∷ raised_all first later)
permutation-raised first later within permutation = record { stays = stays_in; injective = injective_on }
  where
    long : length (raised_all first later) ≡ length later
    long = length-raised_all first later

    stays_in : (place : ℕ) → place < suc (length (raised_all first later)) → get_or (first ∷ raised_all first later) place 0 < suc (length (raised_all first later))
    stays_in zero inside = omega (arith, long)
    stays_in (suc place) inside = omega (arith, long, get_or-raised_all first place later (omega (arith, long)), raised-le first (get_or later place 0), permutation.stays place (omega (arith, long)))

    injective_on : (j k : ℕ) → j < suc (length (raised_all first later)) → k < suc (length (raised_all first later)) → get_or (first ∷ raised_all first later) j 0 ≡ get_or (first ∷ raised_all first later) k 0 → j ≡ k
    injective_on zero zero in_j in_k same = refl
    injective_on zero (suc k) in_j in_k same = absurd (raised-not_first first (get_or later k 0) (sym (get_or-raised_all first k later (omega (arith, long))) ∙ sym same))
    injective_on (suc j) zero in_j in_k same = absurd (raised-not_first first (get_or later j 0) (sym (get_or-raised_all first j later (omega (arith, long))) ∙ same))
    injective_on (suc j) (suc k) in_j in_k same =
        ap suc (permutation.injective j k (omega (arith, long)) (omega (arith, long))
        (raised-different first (get_or later j 0) (get_or later k 0) (sym (get_or-raised_all first j later (omega (arith, long))) ∙ same ∙ get_or-raised_all first k later (omega (arith, long)))))

IsArrangementOf-cons : (first : ℕ) (code arrangement : List ℕ) → first ≤ length code → IsArrangementOf code arrangement → IsArrangementOf (first ∷ code) (first ∷ raised_all first arrangement)
IsArrangementOf-cons first code arrangement within arranged =
    let same_length : length code ≡ length arrangement = sym (ap length arranged.has_code) ∙ length-code_of arrangement in
    record {
      is_permutation = permutation-raised first arrangement (omega arith) arranged.is_permutation;
      has_code = ap (λ n. n ∷ code_of (raised_all first arrangement)) (count_below-raised_first first arrangement ∙ count_below-permutation first arrangement arranged.is_permutation (omega arith))
          ∙ ap (λ c. first ∷ c) (code_of-raised_all first arrangement ∙ arranged.has_code);
    }

pub has_arrangement : (code : List ℕ) → IsArrangementCode code → (arrangement : List ℕ) × IsArrangementOf code arrangement
has_arrangement [] is_code = ([], record { is_permutation = record { stays = λ place inside. absurd (omega arith); injective = λ j k in_j in_k same. absurd (omega arith) }; has_code = refl })
has_arrangement (first ∷ code) is_code =
    let rest : (arrangement : List ℕ) × IsArrangementOf code arrangement = has_arrangement code (record { below = λ place inside. omega (arith, is_code.below (suc place) (omega arith)) }) in
    (first ∷ raised_all first rest.0, IsArrangementOf-cons first code rest.0 (omega (arith, is_code.below 0 (omega arith))) rest.1)
