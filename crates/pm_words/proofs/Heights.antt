-- The sums of a word's prefixes, and what they say of its good starts.
use Rattle.std.proofs.Common.{◌≡◌, ℕ, zero, suc, ◌+◌, ◌-◌, ◌*◌, ◌<◌, ◌≤◌, List, [], ◌∷◌, ◌++◌, length, get_or, take, drop, refl, ap, sym, ◌∙◌, arith, true, false, inl, inr, length-append, fold, pos, negsuc, ◌+ℤ◌, neg_ℤ, ◌≤ℤ◌, ℤ}
use Rattle.std.specs.Prelude.{◌<ℤ◌}
use Rattle.std.proofs.lemmas.Int.{ints, to_z-of_z}
use mir.Val.{to_z, of_z, SFits}
use mir.Syntax.{w32, w64}
use lib.Signed.{lt_z}
use Rattle.std.proofs.lemmas.Bool.{cases_lt, cases_eq}
use Rattle.std.proofs.lemmas.List.{take-append-le, take-take, take_all, length-take-le, length-drop, take-append-drop}
use Rattle.std.proofs.lemmas.List.Sums.{fold_more, fold-append}
use Rattle.pm_words.specs.Word.{sum_of, turned, IsWord, IsGoodStart, IsLowest}

-- the sum of the prefix of this length
unfoldable pub height : List ℤ → ℕ → ℤ
height word prefix = sum_of (take prefix word)

pub height-is : (word : List ℤ) (prefix : ℕ) → height word prefix ≡ sum_of (take prefix word)
unfolding height
height-is word prefix = refl

pub height-none : (word : List ℤ) → height word 0 ≡ pos 0
unfolding height
height-none word = refl

pub height-more : (word : List ℤ) (prefix : ℕ) → prefix < length word → height word (prefix + 1) ≡ height word prefix +ℤ get_or word prefix (pos 0)
unfolding height
height-more word prefix inside = fold_more ◌+ℤ◌ (pos 0) word prefix (pos 0) inside

pub height-all : (word : List ℤ) (prefix : ℕ) → length word ≤ prefix → height word prefix ≡ sum_of word
unfolding height
height-all word prefix past = ap sum_of (take_all prefix word past)

-- a sum does not depend on where it begins
sum_from : (start : ℤ) (word : List ℤ) → fold ◌+ℤ◌ start word ≡ start +ℤ sum_of word
sum_from start [] = omega (arith, ints)
sum_from start (letter ∷ later) =
    let here : fold ◌+ℤ◌ (start +ℤ letter) later ≡ (start +ℤ letter) +ℤ sum_of later = sum_from (start +ℤ letter) later in
    let there : fold ◌+ℤ◌ (pos 0 +ℤ letter) later ≡ (pos 0 +ℤ letter) +ℤ sum_of later = sum_from (pos 0 +ℤ letter) later in
    omega (arith, ints, here, there)

pub sum_of-append : (prefix back : List ℤ) → sum_of (prefix ++ back) ≡ sum_of prefix +ℤ sum_of back
sum_of-append prefix back = fold-append ◌+ℤ◌ (pos 0) prefix back ∙ sum_from (sum_of prefix) back

-- the prefixes of a turned word: those that end before the word's end
take_add : (start more : ℕ) (word : List ℤ) → take (start + more) word ≡ take start word ++ take more (drop start word)
take_add zero more word = ap (λ n. take n word) (omega arith)
take_add (suc start) more [] = take_all _ [] (omega arith) ∙ sym (take_all more [] (omega arith))
take_add (suc start) more (letter ∷ later) =
    let e : suc start + more ≡ suc (start + more) = omega arith in
    ap (λ n. take n (letter ∷ later)) e ∙ ap (λ t. letter ∷ t) (take_add start more later)

height-part : (start more : ℕ) (word : List ℤ) → height word (start + more) ≡ height word start +ℤ sum_of (take more (drop start word))
height-part start more word =
    height-is word (start + more) ∙ ap sum_of (take_add start more word) ∙ sum_of-append (take start word) (take more (drop start word)) ∙ ap (λ h. h +ℤ sum_of (take more (drop start word))) (sym (height-is word start))

pub turned-prefix : (start prefix : ℕ) (word : List ℤ) → start + prefix ≤ length word → height (turned start word) prefix +ℤ height word start ≡ height word (start + prefix)
turned-prefix start prefix word within =
    let long = length-drop start word in
    let is : height (turned start word) prefix ≡ sum_of (take prefix (drop start word)) = height-is (turned start word) prefix ∙ ap sum_of (take-append-le prefix (drop start word) (take start word) (omega (arith, long))) in
    omega (arith, ints, is, height-part start prefix word)

take_past : (prefix : ℕ) (first second : List ℤ) → take (length first + prefix) (first ++ second) ≡ first ++ take prefix second
take_past prefix [] second = ap (λ n. take n second) (omega arith)
take_past prefix (letter ∷ later) second =
    let e : suc (length later) + prefix ≡ suc (length later + prefix) = omega arith in
    ap (λ n. take n (letter ∷ (later ++ second))) e ∙ ap (λ t. letter ∷ t) (take_past prefix later second)

-- and those that come round to the word's beginning again
pub turned-round : (start prefix : ℕ) (word : List ℤ) → start ≤ length word → prefix ≤ start → height (turned start word) ((length word - start) + prefix) +ℤ height word start ≡ sum_of word +ℤ height word prefix
turned-round start prefix word start_within within =
    let long : length (drop start word) ≡ length word - start = length-drop start word in
    let prefixes : take prefix (take start word) ≡ take prefix word = take-take prefix start word within in
    let is : height (turned start word) ((length word - start) + prefix) ≡ sum_of (drop start word) +ℤ height word prefix =
    height-is (turned start word) ((length word - start) + prefix)
    ∙ ap (λ n. sum_of (take (n + prefix) (drop start word ++ take start word))) (sym long)
    ∙ ap sum_of (take_past prefix (drop start word) (take start word))
    ∙ sum_of-append (drop start word) (take prefix (take start word))
    ∙ ap (λ t. sum_of (drop start word) +ℤ sum_of t) prefixes
    ∙ ap (λ h. sum_of (drop start word) +ℤ h) (sym (height-is word prefix)) in
    let whole : sum_of word ≡ height word start +ℤ sum_of (drop start word) =
    ap sum_of (sym (take-append-drop start word)) ∙ sum_of-append (take start word) (drop start word) ∙ ap (λ h. h +ℤ sum_of (drop start word)) (sym (height-is word start)) in
    omega (arith, ints, is, whole)

pub length-turned : {X : Type 0} (start : ℕ) (entries : List X) → start ≤ length entries → length (turned start entries) ≡ length entries
length-turned start entries within = omega (arith, within, length-append (drop start entries) (take start entries), length-drop start entries, length-take-le start entries within)

-- a good start by the heights: lower than all before, and less than the goal above all after
pub record IsLow (goal : ℕ) (word : List ℤ) (start : ℕ) : Type 0 where
  pub within : start < length word
  pub before : (place : ℕ) → place < start → height word start <ℤ height word place
  pub after : (place : ℕ) → start < place → place < length word → height word start <ℤ (height word place +ℤ pos goal)

pub IsGoodStart-from_low : (goal : ℕ) (word : List ℤ) (start : ℕ) → 0 < goal → sum_of word ≡ neg_ℤ (pos goal) → IsLow goal word start → IsGoodStart goal word start
IsGoodStart-from_low goal word start positive sum low = record {
  within = low.within;
  good = record {
    sum =
        let round = turned-round start start word (omega (arith, low.within)) (omega arith) in
        let long : (length word - start) + start ≡ length word = omega (arith, low.within) in
        let whole : height (turned start word) (length word) ≡ sum_of (turned start word) = height-all (turned start word) (length word) (omega (arith, length-turned start word (omega (arith, low.within)))) in
        omega (arith, ints, round, ap (height (turned start word)) long, whole, sum);
    above = λ prefix inside.
        let long : length (turned start word) ≡ length word = length-turned start word (omega (arith, low.within)) in
        let is = height-is (turned start word) prefix in
        elim (cases_lt (start + prefix) (length word)) [
          | inl straight ↦ elim (cases_eq prefix 0) [
            | inl none ↦
                let zero_is : height (turned start word) prefix ≡ pos 0 = ap (height (turned start word)) none ∙ height-none (turned start word) in
                omega (arith, ints, is, zero_is, positive)
            | inr some ↦ omega (arith, ints, is, turned-prefix start prefix word (omega arith), low.after (start + prefix) (omega (arith, some)) straight)
          ]
          | inr past ↦
              let split : (length word - start) + (prefix - (length word - start)) ≡ prefix = omega (arith, low.within) in
              let round = turned-round start (prefix - (length word - start)) word (omega (arith, low.within)) (omega (arith, long, inside)) in
              omega (arith, ints, is, round, ap (height (turned start word)) split, sum, low.before (prefix - (length word - start)) (omega (arith, long, inside, low.within)))
        ];
  };
}

pub IsLow-from_good : (goal : ℕ) (word : List ℤ) (start : ℕ) → sum_of word ≡ neg_ℤ (pos goal) → IsGoodStart goal word start → IsLow goal word start
IsLow-from_good goal word start sum good_start =
    let long : length (turned start word) ≡ length word = length-turned start word (omega (arith, good_start.within)) in
    record {
      within = good_start.within;
      before = λ place earlier.
          let round = turned-round start place word (omega (arith, good_start.within)) (omega arith) in
          omega (arith, ints, round, sum, height-is (turned start word) ((length word - start) + place), good_start.good.above ((length word - start) + place) (omega (arith, long, good_start.within, earlier)));
      after = λ place later inside.
          let e : start + (place - start) ≡ place = omega arith in
          omega (arith, ints, turned-prefix start (place - start) word (omega arith), ap (height word) e, height-is (turned start word) (place - start), good_start.good.above (place - start) (omega (arith, long)));
    }

-- the sum of a prefix, with the bounds by which it fits
pub record IsSummedTo (word : List ℤ) (prefix : ℕ) (sum : ℤ) : Type 0 where
  pub is : sum ≡ height word prefix
  pub least : neg_ℤ (pos prefix) ≤ℤ sum
  pub most : sum ≤ℤ pos (2147483648 * prefix)

pub IsSummedTo-none : (word : List ℤ) → IsSummedTo word 0 (pos 0)
IsSummedTo-none word = record { is = sym (height-none word); least = omega (arith, ints); most = omega (arith, ints) }

pub IsSummedTo-more : (word : List ℤ) (prefix : ℕ) (sum after : ℤ) → IsSummedTo word prefix sum → negsuc 0 ≤ℤ get_or word prefix (pos 0) → prefix < length word → get_or word prefix (pos 0) ≤ℤ pos 2147483647
    → after ≡ sum +ℤ get_or word prefix (pos 0) → IsSummedTo word (prefix + 1) after
IsSummedTo-more word prefix sum after summed at_least inside fits is = record {
  is = omega (arith, ints, summed.is, height-more word prefix inside, is);
  least = omega (arith, ints, summed.least, at_least, is);
  most = omega (arith, ints, summed.most, fits, is);
}

pub height-falls : (word : List ℤ) (prefix : ℕ) → IsWord word → prefix < length word → height word prefix ≤ℤ (height word (prefix + 1) +ℤ pos 1)
height-falls word prefix is_word inside = omega (arith, ints, height-more word prefix inside, is_word.least prefix inside)

-- the least height of the first prefixes
pub record IsLowestTo (word : List ℤ) (prefix : ℕ) (lowest : ℤ) : Type 0 where
  pub below : (place : ℕ) → place < prefix → lowest ≤ℤ height word place
  pub reached : (place : ℕ) × (place < length word) × (height word place ≡ lowest)

pub IsLowestTo-none : (word : List ℤ) → 0 < length word → IsLowestTo word 0 (pos 0)
IsLowestTo-none word filled = record { below = λ place inside. absurd (omega arith); reached = (0, filled, height-none word) }

-- a lower sum takes the place of the lowest
pub IsLowestTo-lower : (word : List ℤ) (prefix : ℕ) (lowest sum : ℤ) → IsLowestTo word prefix lowest → sum ≡ height word prefix → prefix < length word → sum <ℤ lowest → IsLowestTo word (prefix + 1) sum
IsLowestTo-lower word prefix lowest sum lowest_to sum_is inside lower = record {
  below = λ place place_inside. elim (cases_eq place prefix) [
    | inl here ↦ omega (arith, ints, ap (height word) here, sum_is)
    | inr other ↦ omega (arith, ints, lowest_to.below place (omega (arith, other)), lower)
  ];
  reached = (prefix, inside, sym sum_is);
}

pub IsLowestTo-same : (word : List ℤ) (prefix : ℕ) (lowest sum : ℤ) → IsLowestTo word prefix lowest → sum ≡ height word prefix → lowest ≤ℤ sum → IsLowestTo word (prefix + 1) lowest
IsLowestTo-same word prefix lowest sum lowest_to sum_is higher = record {
  below = λ place place_inside. elim (cases_eq place prefix) [
    | inl here ↦ omega (arith, ints, ap (height word) here, sum_is, higher)
    | inr other ↦ lowest_to.below place (omega (arith, other))
  ];
  reached = lowest_to.reached;
}

pub IsLowestTo-all : (word : List ℤ) (prefix : ℕ) (lowest : ℤ) → prefix ≡ length word → IsLowestTo word prefix lowest → IsLowest word lowest
IsLowestTo-all word prefix lowest all lowest_to = record {
  below = λ place inside. omega (arith, ints, height-is word place, lowest_to.below place (omega arith));
  reached = (lowest_to.reached.0, lowest_to.reached.1, sym (height-is word lowest_to.reached.0) ∙ lowest_to.reached.2);
}

height-least : (word : List ℤ) (prefix : ℕ) → IsWord word → prefix ≤ length word → neg_ℤ (pos prefix) ≤ℤ height word prefix
height-least word zero is_word within = omega (arith, ints, height-none word)
height-least word (suc prefix) is_word within =
    let e : prefix + 1 ≡ suc prefix = omega arith in
    omega (arith, ints, height-falls word prefix is_word (omega arith), ap (height word) e, height-least word prefix is_word (omega arith))

-- the lowest height is small
pub record IsSmall (word : List ℤ) (lowest : ℤ) : Type 0 where
  pub least : neg_ℤ (pos (length word)) ≤ℤ lowest
  pub most : lowest ≤ℤ pos 0

pub IsLowest-small : (word : List ℤ) (lowest : ℤ) → IsWord word → IsLowest word lowest → IsSmall word lowest
IsLowest-small word lowest is_word is_lowest =
    let inside : is_lowest.reached.0 < length word = is_lowest.reached.1 in
    let at : sum_of (take is_lowest.reached.0 word) ≡ lowest = is_lowest.reached.2 in
    record {
      least = omega (arith, ints, height-least word is_lowest.reached.0 is_word (omega arith), height-is word is_lowest.reached.0, at);
      most = omega (arith, ints, is_lowest.below 0 (omega arith), height-is word 0, height-none word);
    }

-- the lowest height is so low that the goal above it is 1 at most
pub lowest_bound : (word : List ℤ) (goal : ℕ) (lowest : ℤ) → IsWord word → sum_of word ≡ neg_ℤ (pos goal) → IsLowest word lowest → (lowest +ℤ pos goal) ≤ℤ pos 1
lowest_bound word goal lowest is_word sum is_lowest =
    let inside : is_lowest.reached.0 < length word = is_lowest.reached.1 in
    let e : (length word - 1) + 1 ≡ length word = omega arith in
    omega (arith, ints, height-falls word (length word - 1) is_word (omega arith), ap (height word) e, height-all word (length word) (omega arith), sum, is_lowest.below (length word - 1) (omega arith), height-is word (length word - 1))

pub filled : (word : List ℤ) (goal : ℕ) → 0 < goal → sum_of word ≡ neg_ℤ (pos goal) → 0 < length word
filled [] goal positive sum = absurd (omega (arith, ints))
filled (letter ∷ later) goal positive sum = omega arith

-- what a test of the program says
pub less_from_test : (first second : ℤ) → lt_z first second ≡ true → first <ℤ second
less_from_test first second test = grind (arith, ints)

pub not_less_from_test : (first second : ℤ) → lt_z first second ≡ false → second ≤ℤ first
not_less_from_test first second test = grind (arith, ints)

fits_between : (number : ℤ) → neg_ℤ (pos 4294967296) ≤ℤ number → number ≤ℤ pos 9223372036854775807 → SFits w64 number
fits_between (pos size) least most = record { sfits = omega (arith, ints) }
fits_between (negsuc size) least most = record { sfits = omega (arith, ints) }

letter_most : (letter : ℤ) → SFits w32 letter → letter ≤ℤ pos 2147483647
letter_most letter fits = omega (arith, ints)

-- the sum that the program has fits, so it is the sum
pub IsSummedTo-step : (word : List ℤ) (prefix bits : ℕ) (read : ℤ) → IsSummedTo word prefix (to_z w64 bits) → negsuc 0 ≤ℤ get_or word prefix (pos 0) → prefix < length word → length word < 4294967296
    → SFits w32 (get_or word prefix (pos 0)) → read ≡ to_z w32 (of_z w32 (get_or word prefix (pos 0)))
    → IsSummedTo word (prefix + 1) (to_z w64 (of_z w64 (to_z w64 bits +ℤ to_z w64 (of_z w64 read))))
IsSummedTo-step word prefix bits read summed at_least inside few fits is =
    let letter : read ≡ get_or word prefix (pos 0) = is ∙ to_z-of_z w32 (get_or word prefix (pos 0)) fits in
    let most = letter_most (get_or word prefix (pos 0)) fits in
    let read_fits : SFits w64 read = fits_between read (omega (arith, ints, letter, at_least)) (omega (arith, ints, letter, most)) in
    let same : to_z w64 (of_z w64 read) ≡ get_or word prefix (pos 0) = to_z-of_z w64 read read_fits ∙ letter in
    let sum : to_z w64 bits +ℤ to_z w64 (of_z w64 read) ≡ to_z w64 bits +ℤ get_or word prefix (pos 0) = ap (λ r. to_z w64 bits +ℤ r) same in
    let sum_fits : SFits w64 (to_z w64 bits +ℤ get_or word prefix (pos 0)) = fits_between (to_z w64 bits +ℤ get_or word prefix (pos 0)) (omega (arith, ints, summed.least, at_least)) (omega (arith, ints, summed.most, most)) in
    IsSummedTo-more word prefix (to_z w64 bits) _ summed at_least inside most
    (ap (λ s. to_z w64 (of_z w64 s)) sum ∙ to_z-of_z w64 (to_z w64 bits +ℤ get_or word prefix (pos 0)) sum_fits)

-- the bound that the program has is the lowest sum and the goal
pub bound_is : (word : List ℤ) (goal : ℕ) (lowest read : ℤ) → IsSmall word lowest → length word < 4294967296 → goal < 4294967296 → read ≡ pos goal
    → to_z w64 (of_z w64 (to_z w64 (of_z w64 lowest) +ℤ to_z w64 (of_z w64 read))) ≡ lowest +ℤ pos goal
bound_is word goal lowest read small few goal_fits is =
    let lowest_fits : SFits w64 lowest = fits_between lowest (omega (arith, ints, small.least)) (omega (arith, ints, small.most)) in
    let read_fits : SFits w64 read = fits_between read (omega (arith, ints, is)) (omega (arith, ints, is)) in
    let sum_fits : SFits w64 (lowest +ℤ read) = fits_between (lowest +ℤ read) (omega (arith, ints, small.least, is)) (omega (arith, ints, small.most, is)) in
    ap (λ a. to_z w64 (of_z w64 (a +ℤ to_z w64 (of_z w64 read)))) (to_z-of_z w64 lowest lowest_fits)
    ∙ ap (λ b. to_z w64 (of_z w64 (lowest +ℤ b))) (to_z-of_z w64 read read_fits)
    ∙ to_z-of_z w64 (lowest +ℤ read) sum_fits
    ∙ ap (λ b. lowest +ℤ b) is
