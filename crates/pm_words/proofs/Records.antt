-- The places at which a word's sum is lower than ever before and below a bound: they are its good starts.
use Rattle.std.proofs.Common.{◌≡◌, ℕ, zero, suc, ◌+◌, ◌-◌, ◌%◌, ◌<◌, List, [], ◌∷◌, ◌++◌, length, get_or, take, drop, refl, ap, sym, ◌∙◌, subst, arith, inl, inr, length-append, pos, ◌+ℤ◌, neg_ℤ, ◌≤ℤ◌, ℤ}
use Rattle.std.specs.Prelude.{◌<ℤ◌}
use Rattle.std.specs.List.Sorted.{IsStrictlyIncreasing}
use Rattle.std.proofs.Math.Nat.{mod-eq_of_lt, add-mod_right}
use Rattle.std.proofs.lemmas.Int.{ints}
use Rattle.std.proofs.lemmas.Bool.{cases_lt, cases_eq}
use Rattle.std.proofs.lemmas.List.{get_or_append_left, get_or_push, get_or-append_right, get_or-drop, get_or-take, length-drop}
use Rattle.pm_words.specs.Word.{sum_of, turned, IsWord, IsGoodStarts, IsLowest}
use Rattle.pm_words.proofs.Heights.{height, height-is, height-none, height-falls, IsLow, IsGoodStart-from_low, IsLow-from_good}

-- lower than all before, and below the bound
pub record IsRecord (word : List ℤ) (bound : ℤ) (place : ℕ) : Type 0 where
  pub before : (earlier : ℕ) → earlier < place → height word place <ℤ height word earlier
  pub under : height word place <ℤ bound

-- the least height so far: one above the first before any is seen
pub data IsLeast (word : List ℤ) (prefix : ℕ) (least : ℤ) : Type 0 where
  none_seen : prefix ≡ 0 → least ≡ pos 1 → IsLeast word prefix least
  seen_at : (place : ℕ) → place < prefix → height word place ≡ least → IsLeast word prefix least

-- the records of the first prefixes
pub record HasRecords (word : List ℤ) (bound : ℤ) (prefix : ℕ) (least : ℤ) (starts : List ℕ) : Type 0 where
  pub below : (place : ℕ) → place < prefix → least ≤ℤ height word place
  pub reached : IsLeast word prefix least
  pub rising : IsStrictlyIncreasing starts
  pub inside : (place : ℕ) → place < length starts → get_or starts place 0 < prefix
  pub good : (place : ℕ) → place < length starts → IsRecord word bound (get_or starts place 0)
  pub all : (start : ℕ) → start < prefix → IsRecord word bound start → (place : ℕ) × (place < length starts) × (get_or starts place 0 ≡ start)
  pub none_yet : bound ≤ℤ least → length starts ≡ 0
  pub as_many : least ≤ℤ bound → pos (length starts) +ℤ least ≡ bound

pub HasRecords-none : (word : List ℤ) (bound : ℤ) (starts : List ℕ) → bound ≤ℤ pos 1 → starts ≡ [] → HasRecords word bound 0 (pos 1) starts
HasRecords-none word bound starts low none = rw none (record {
  below = λ place inside. absurd (omega arith);
  reached = none_seen refl refl;
  rising = λ place inside. absurd (omega arith);
  inside = λ place inside. absurd (omega arith);
  good = λ place inside. absurd (omega arith);
  all = λ start inside is_record. absurd (omega arith);
  none_yet = λ past. refl;
  as_many = λ under. omega (arith, ints);
})

-- a sum that is below the least is one less
one_less : (word : List ℤ) (prefix : ℕ) (least sum : ℤ) → IsWord word → prefix < length word → ((place : ℕ) → place < prefix → least ≤ℤ height word place) → IsLeast word prefix least → sum ≡ height word prefix → sum <ℤ least → sum +ℤ pos 1 ≡ least
one_less word zero least sum is_word inside below (none_seen start is_one) sum_is lower = omega (arith, ints, sum_is, height-none word, is_one)
one_less word zero least sum is_word inside below (seen_at place earlier is) sum_is lower = absurd (omega arith)
one_less word (suc prefix) least sum is_word inside below reached sum_is lower =
    let e : prefix + 1 ≡ suc prefix = omega arith in
    omega (arith, ints, sum_is, height-falls word prefix is_word (omega arith), ap (height word) e, below prefix (omega arith), lower)

before_prefix : (word : List ℤ) (prefix : ℕ) (least sum : ℤ) → ((place : ℕ) → place < prefix → least ≤ℤ height word place) → sum ≡ height word prefix → sum <ℤ least → (earlier : ℕ) → earlier < prefix → height word prefix <ℤ height word earlier
before_prefix word prefix least sum below sum_is lower earlier inside = omega (arith, ints, sum_is, below earlier inside)

lower_below : (word : List ℤ) (prefix : ℕ) (least sum : ℤ) → ((place : ℕ) → place < prefix → least ≤ℤ height word place) → sum ≡ height word prefix → sum <ℤ least → (place : ℕ) → place < prefix + 1 → sum ≤ℤ height word place
lower_below word prefix least sum below sum_is lower place inside = elim (cases_eq place prefix) [
  | inl here ↦ omega (arith, ints, ap (height word) here, sum_is)
  | inr other ↦ omega (arith, ints, below place (omega (arith, other)), lower)
]

rising-push : (starts : List ℕ) (prefix : ℕ) → IsStrictlyIncreasing starts → ((place : ℕ) → place < length starts → get_or starts place 0 < prefix) → IsStrictlyIncreasing (starts ++ prefix ∷ [])
rising-push starts prefix rising inside = λ place place_inside.
    let long : length (starts ++ prefix ∷ []) ≡ length starts + 1 = length-append starts (prefix ∷ []) in
    elim (cases_lt (place + 1) (length starts)) [
      | inl old ↦ omega (arith, get_or_append_left starts (prefix ∷ []) 0 place (omega arith), get_or_append_left starts (prefix ∷ []) 0 (place + 1) old, rising place old)
      | inr last ↦ omega (arith, get_or_append_left starts (prefix ∷ []) 0 place (omega arith), get_or_push starts prefix 0 (place + 1) (omega arith), inside place (omega arith))
    ]

-- what holds of the old entries and of the new one holds of all
each-push : (P : ℕ → Type 0) (starts : List ℕ) (prefix : ℕ) → ((place : ℕ) → place < length starts → P (get_or starts place 0)) → P prefix → (place : ℕ) → place < length (starts ++ prefix ∷ []) → P (get_or (starts ++ prefix ∷ []) place 0)
each-push P starts prefix old new place inside =
    let long : length (starts ++ prefix ∷ []) ≡ length starts + 1 = length-append starts (prefix ∷ []) in
    elim (cases_lt place (length starts)) [
      | inl is_old ↦ subst P (sym (get_or_append_left starts (prefix ∷ []) 0 place is_old)) (old place is_old)
      | inr is_new ↦ subst P (sym (get_or_push starts prefix 0 place (omega arith))) new
    ]

found-push : (starts : List ℕ) (prefix start : ℕ) → (place : ℕ) × (place < length starts) × (get_or starts place 0 ≡ start) → (place : ℕ) × (place < length (starts ++ prefix ∷ [])) × (get_or (starts ++ prefix ∷ []) place 0 ≡ start)
found-push starts prefix start found =
    let inside : found.0 < length starts = found.1 in
    (found.0, omega (arith, length-append starts (prefix ∷ [])), get_or_append_left starts (prefix ∷ []) 0 found.0 inside ∙ found.2)

-- a new record below the bound
pub HasRecords-push : (word : List ℤ) (bound : ℤ) (prefix : ℕ) (least sum : ℤ) (starts : List ℕ) → HasRecords word bound prefix least starts → sum ≡ height word prefix → IsWord word → prefix < length word
    → sum <ℤ least → sum <ℤ bound → HasRecords word bound (prefix + 1) sum (starts ++ prefix ∷ [])
HasRecords-push word bound prefix least sum starts has sum_is is_word inside lower under =
    let less : sum +ℤ pos 1 ≡ least = one_less word prefix least sum is_word inside has.below has.reached sum_is lower in
    let new : IsRecord word bound prefix = record { before = before_prefix word prefix least sum has.below sum_is lower; under = omega (arith, ints, sum_is, under) } in
    let long : length (starts ++ prefix ∷ []) ≡ length starts + 1 = length-append starts (prefix ∷ []) in
    let many : pos (length starts) +ℤ least ≡ bound = has.as_many (omega (arith, ints)) in
    record {
      below = lower_below word prefix least sum has.below sum_is lower;
      reached = seen_at prefix (omega arith) (sym sum_is);
      rising = rising-push starts prefix has.rising has.inside;
      inside = each-push (λ start. start < prefix + 1) starts prefix (λ place place_inside. omega (arith, has.inside place place_inside)) (omega arith);
      good = each-push (IsRecord word bound) starts prefix has.good new;
      all = λ start start_inside is_record. elim (cases_eq start prefix) [
        | inl here ↦ (length starts, omega arith, get_or_push starts prefix 0 (length starts) refl ∙ sym here)
        | inr other ↦ found-push starts prefix start (has.all start (omega (arith, other)) is_record)
      ];
      none_yet = λ past. absurd (omega (arith, ints));
      as_many = λ under_bound. omega (arith, ints, long, many, less);
    }

-- a new least height that is not below the bound
pub HasRecords-high : (word : List ℤ) (bound : ℤ) (prefix : ℕ) (least sum : ℤ) (starts : List ℕ) → HasRecords word bound prefix least starts → sum ≡ height word prefix → IsWord word → prefix < length word
    → sum <ℤ least → bound ≤ℤ sum → HasRecords word bound (prefix + 1) sum starts
HasRecords-high word bound prefix least sum starts has sum_is is_word inside lower over =
    let none : length starts ≡ 0 = has.none_yet (omega (arith, ints)) in
    record {
      below = lower_below word prefix least sum has.below sum_is lower;
      reached = seen_at prefix (omega arith) (sym sum_is);
      rising = has.rising;
      inside = λ place place_inside. omega (arith, has.inside place place_inside);
      good = has.good;
      all = λ start start_inside is_record. elim (cases_eq start prefix) [
        | inl here ↦ absurd (omega (arith, ints, is_record.under, ap (height word) here, sum_is))
        | inr other ↦ has.all start (omega (arith, other)) is_record
      ];
      none_yet = λ past. none;
      as_many = λ under_bound. omega (arith, ints, none);
    }

-- no record: some height before is as low
not_lower : (word : List ℤ) (bound : ℤ) (prefix : ℕ) (least sum : ℤ) → IsLeast word prefix least → sum ≡ height word prefix → least ≤ℤ sum → IsRecord word bound prefix → ⊥
not_lower word bound prefix least sum (none_seen start is_one) sum_is higher is_record = omega (arith, ints, sum_is, ap (height word) start, height-none word, is_one)
not_lower word bound prefix least sum (seen_at place earlier is) sum_is higher is_record = omega (arith, ints, sum_is, is_record.before place earlier, is)

IsLeast-more : (word : List ℤ) (prefix : ℕ) (least sum : ℤ) → IsLeast word prefix least → sum ≡ height word prefix → least ≤ℤ sum → IsLeast word (prefix + 1) least
IsLeast-more word prefix least sum (none_seen start is_one) sum_is higher = absurd (omega (arith, ints, sum_is, ap (height word) start, height-none word, is_one))
IsLeast-more word prefix least sum (seen_at place earlier is) sum_is higher = seen_at place (omega arith) is

pub HasRecords-same : (word : List ℤ) (bound : ℤ) (prefix : ℕ) (least sum : ℤ) (starts : List ℕ) → HasRecords word bound prefix least starts → sum ≡ height word prefix → least ≤ℤ sum → HasRecords word bound (prefix + 1) least starts
HasRecords-same word bound prefix least sum starts has sum_is higher = record {
  below = λ place place_inside. elim (cases_eq place prefix) [
    | inl here ↦ omega (arith, ints, ap (height word) here, sum_is)
    | inr other ↦ has.below place (omega (arith, other))
  ];
  reached = IsLeast-more word prefix least sum has.reached sum_is higher;
  rising = has.rising;
  inside = λ place place_inside. omega (arith, has.inside place place_inside);
  good = has.good;
  all = λ start start_inside is_record. elim (cases_eq start prefix) [
    | inl here ↦ let P : ℕ → Type 0 = IsRecord word bound in absurd (not_lower word bound prefix least sum has.reached sum_is higher (subst P here is_record))
    | inr other ↦ has.all start (omega (arith, other)) is_record
  ];
  none_yet = has.none_yet;
  as_many = has.as_many;
}

low_from_record : (word : List ℤ) (goal : ℕ) (lowest bound : ℤ) (start : ℕ) → IsLowest word lowest → bound ≡ lowest +ℤ pos goal → start < length word → IsRecord word bound start → IsLow goal word start
low_from_record word goal lowest bound start is_lowest bound_is inside is_record = record {
  within = inside;
  before = is_record.before;
  after = λ place later place_inside. omega (arith, ints, is_record.under, bound_is, is_lowest.below place place_inside, height-is word place);
}

record_from_low : (word : List ℤ) (goal : ℕ) (lowest bound : ℤ) (start : ℕ) → 0 < goal → IsLowest word lowest → bound ≡ lowest +ℤ pos goal → IsLow goal word start → IsRecord word bound start
record_from_low word goal lowest bound start positive is_lowest bound_is low =
    let at = is_lowest.reached.0 in
    let at_is : height word at ≡ lowest = height-is word at ∙ is_lowest.reached.2 in
    record {
      before = low.before;
      under = elim (cases_lt start at) [
        | inl later ↦ omega (arith, ints, low.after at later is_lowest.reached.1, at_is, bound_is)
        | inr not_later ↦ elim (cases_eq start at) [
          | inl here ↦ omega (arith, ints, ap (height word) here, at_is, bound_is)
          | inr other ↦ absurd (omega (arith, ints, low.before at (omega (arith, other)), at_is, is_lowest.below start low.within, height-is word start))
        ]
      ];
    }

least_is_lowest : (word : List ℤ) (prefix : ℕ) (lowest least : ℤ) → prefix ≡ length word → 0 < prefix → IsLowest word lowest → ((place : ℕ) → place < prefix → least ≤ℤ height word place) → IsLeast word prefix least → least ≡ lowest
least_is_lowest word prefix lowest least whole filled is_lowest below (none_seen start is_one) = absurd (omega arith)
least_is_lowest word prefix lowest least whole filled is_lowest below (seen_at place earlier is) =
    let at = is_lowest.reached.0 in
    let at_is : height word at ≡ lowest = height-is word at ∙ is_lowest.reached.2 in
    let at_inside : at < length word = is_lowest.reached.1 in
    omega (arith, ints, is, is_lowest.below place (omega arith), height-is word place, below at (omega arith), at_is)

-- at the end the records are the good starts
pub HasRecords-starts : (word : List ℤ) (goal prefix : ℕ) (lowest bound least : ℤ) (starts : List ℕ) → 0 < goal → sum_of word ≡ neg_ℤ (pos goal) → 0 < length word → prefix ≡ length word → IsLowest word lowest → bound ≡ lowest +ℤ pos goal
    → HasRecords word bound prefix least starts → IsGoodStarts goal word starts
HasRecords-starts word goal prefix lowest bound least starts positive sum filled whole is_lowest bound_is has =
    let same : least ≡ lowest = least_is_lowest word prefix lowest least whole (omega arith) is_lowest has.below has.reached in
    record {
      as_many = omega (arith, ints, same, has.as_many (omega (arith, ints, same, bound_is)), bound_is);
      rising = has.rising;
      good = λ place inside. IsGoodStart-from_low goal word (get_or starts place 0) positive sum (low_from_record word goal lowest bound (get_or starts place 0) is_lowest bound_is (omega (arith, has.inside place inside)) (has.good place inside));
      all = λ start is_good.
          let low : IsLow goal word start = IsLow-from_good goal word start sum is_good in
          has.all start (omega (arith, low.within)) (record_from_low word goal lowest bound start positive is_lowest bound_is low);
    }

-- an entry of a turned list
pub get_or-turned : (start place : ℕ) (entries : List ℕ) → start < length entries → place < length entries → get_or (turned start entries) place 0 ≡ get_or entries ((start + place) % length entries) 0
get_or-turned start place entries within inside =
    let long : length (drop start entries) ≡ length entries - start = length-drop start entries in
    elim (cases_lt (start + place) (length entries)) [
      | inl straight ↦
          get_or_append_left (drop start entries) (take start entries) 0 place (omega (arith, long))
          ∙ get_or-drop start entries place 0
          ∙ ap (λ n. get_or entries n 0) (sym (mod-eq_of_lt straight))
      | inr past ↦
          let back : start + place ≡ (place - (length entries - start)) + length entries = omega arith in
          let turn : (start + place) % length entries ≡ place - (length entries - start) =
          ap (λ n. n % length entries) back ∙ add-mod_right (place - (length entries - start)) (length entries) ∙ mod-eq_of_lt (omega arith) in
          get_or-append_right (drop start entries) (take start entries) (length entries - start) place 0 long (omega arith)
          ∙ get_or-take start entries (place - (length entries - start)) 0 (omega arith)
          ∙ ap (λ n. get_or entries n 0) (sym turn)
    ]
