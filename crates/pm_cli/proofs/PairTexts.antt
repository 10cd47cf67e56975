-- The words of profiles: which pieces they fall into, and that they spell one profile.
use Rattle.std.proofs.Common.{◌≡◌, ◌≢◌, ℕ, zero, suc, ◌+◌, ◌*◌, ◌^◌, ◌<◌, ◌≤◌, ◌⊎◌, inl, inr, true, false, List, [], ◌∷◌, ◌++◌, length, get_or, map, eqb, refl, sym, ap, ap₂, ◌∙◌, subst, arith}
use Rattle.std.specs.Prelude.{All, decimal, Option, None, Some, MatchOption}
use Rattle.std.specs.Borrow.{Bor}
use Rattle.std.specs.List.{AllByRecursion, join_with_byte, slice_split, count_by}
use Rattle.std.proofs.lemmas.Bool.{ne_eqb}
use Rattle.std.proofs.lemmas.Fmt.{decimal_injective}
use Rattle.std.proofs.lemmas.List.{get_or-map, length-map, map-append}
use Rattle.std.proofs.lemmas.List.Elements.{All-from_get_or, All-append, All-cons}
use Rattle.std.proofs.lemmas.List.Splits.{slice_split_at, slice_split_none, length-slice_split, join_with_byte-slice_split}
use Rattle.std.proofs.lemmas.List.Sums.{get_or-le-sum_by, sum_by-cons}
use Rattle.std.proofs.lemmas.Str.Parse.{digit_at}
use Rattle.std.proofs.lemmas.Str.Pattern.{IsSplitOnceResult, split_after}
use Rattle.pm_text.proofs.NumeralLemmas.{decimal_is_number}
use Rattle.pm_brackets.specs.First.{IsFirst}
use Rattle.pm_trees.specs.Pairs.{BreaksPair, empty, wrong, IsProfile, degree_sum}
use Rattle.pm_trees.specs.Profile.{HasTooMany}
use Rattle.pm_cli.specs.ProfileWord.{colon, comma, pair_text, profile_text, IsPairOfWords, ArePairsOfWords}

-- the byte doesn't stand in the text
abbrev pub Lacks : ℕ → List ℕ → Type 0
Lacks c text = All (λ b. eqb b c ≡ false) text

-- a byte that is no digit doesn't stand in a number
pub no_digit : (c n : ℕ) → n < 2 ^ 64 → (c < 48) ⊎ (57 < c) → (i : ℕ) → i < length (decimal n) → get_or (decimal n) i 0 ≢ c
no_digit c n fits other i l e =
    let digit = digit_at (decimal n) i (let is = decimal_is_number n fits in is.numeral.1) l in
    elim other [ inl below ↦ omega arith | inr above ↦ omega arith ]

number_lacks : (c n : ℕ) → n < 2 ^ 64 → (c < 48) ⊎ (57 < c) → Lacks c (decimal n)
number_lacks c n fits other = All-from_get_or (λ b. eqb b c ≡ false) (decimal n) 0 (λ i l. ne_eqb (get_or (decimal n) i 0) c (no_digit c n fits other i l))

-- a pair of words fits
degree_fits : (pair : ℕ × ℕ) → IsPairOfWords pair → pair.0 < 2 ^ 64
degree_fits pair is = let d = is.degree in omega arith

count_fits : (pair : ℕ × ℕ) → IsPairOfWords pair → pair.1 < 2 ^ 64
count_fits pair is = let d = is.count in omega arith

-- no comma stands in a pair
pair_lacks : (pair : ℕ × ℕ) → IsPairOfWords pair → Lacks comma (pair_text pair)
pair_lacks pair is =
    All-append (λ b. eqb b comma ≡ false) (decimal pair.0) (colon ∷ decimal pair.1) (number_lacks comma pair.0 (degree_fits pair is) (inl (omega arith)))
    (All-cons (λ b. eqb b comma ≡ false) colon (decimal pair.1) refl (number_lacks comma pair.1 (count_fits pair is) (inl (omega arith))))

-- pieces that lack the byte are the pieces of what they are joined to
split_joined : (c : ℕ) → eqb c c ≡ true → (first : List ℕ) (more : List (List ℕ)) → AllByRecursion (Lacks c) (first ∷ more) → slice_split (λ b. eqb b c) (join_with_byte c (first ∷ more)) ≡ first ∷ more
split_joined c same first [] all = slice_split_none (λ b. eqb b c) first all.0
split_joined c same first (next ∷ more) all =
    slice_split_at (λ b. eqb b c) first c (join_with_byte c (next ∷ more)) all.0 same
    ∙ ap (λ (ts : List (List ℕ)). first ∷ ts) (split_joined c same next more all.1)

pairs_lack : (pairs : List (ℕ × ℕ)) → AllByRecursion IsPairOfWords pairs → AllByRecursion (Lacks comma) (map pair_text pairs)
pairs_lack [] all = tt
pairs_lack (pair ∷ pairs) all = (pair_lacks pair all.0, pairs_lack pairs all.1)

-- the pieces of a profile's word are its pairs
pub pieces_of_profile : (pairs : List (ℕ × ℕ)) → ArePairsOfWords pairs → slice_split (λ b. eqb b comma) (profile_text pairs) ≡ map pair_text pairs
pieces_of_profile [] are = absurd (let some = are.some in omega arith)
pieces_of_profile (pair ∷ pairs) are = split_joined comma refl (pair_text pair) (map pair_text pairs) (pairs_lack (pair ∷ pairs) are.each)

-- two numbers with a colon between are those of one pair
one_pair : (p q : ℕ × ℕ) → IsPairOfWords p → IsPairOfWords q → pair_text p ≡ pair_text q → p ≡ q
one_pair p q x y e =
    let parts = sym (fields p x) ∙ ap (slice_split (λ b. eqb b colon)) e ∙ fields q y in
    ap₂ (λ (a b : ℕ). (a, b))
    (decimal_injective p.0 q.0 (degree_fits p x) (degree_fits q y) (first_same parts))
    (decimal_injective p.1 q.1 (count_fits p x) (count_fits q y) (second_same parts)) where
      fields : (p : ℕ × ℕ) → IsPairOfWords p → slice_split (λ b. eqb b colon) (pair_text p) ≡ decimal p.0 ∷ decimal p.1 ∷ []
      fields p x =
          split_joined colon refl (decimal p.0) (decimal p.1 ∷ []) (number_lacks colon p.0 (degree_fits p x) (inr (omega arith)), (number_lacks colon p.1 (count_fits p x) (inr (omega arith)), tt))

      first_same : {a b c d : List ℕ} → ◌≡◌ {A = List (List ℕ)} (a ∷ b ∷ []) (c ∷ d ∷ []) → a ≡ c
      first_same e = cc

      second_same : {a b c d : List ℕ} → ◌≡◌ {A = List (List ℕ)} (a ∷ b ∷ []) (c ∷ d ∷ []) → b ≡ d
      second_same e = cc

one_list : (ps qs : List (ℕ × ℕ)) → AllByRecursion IsPairOfWords ps → AllByRecursion IsPairOfWords qs → map pair_text ps ≡ map pair_text qs → ps ≡ qs
one_list [] [] x y e = refl
one_list [] (q ∷ qs) x y e = cc
one_list (p ∷ ps) [] x y e = cc
one_list (p ∷ ps) (q ∷ qs) x y e = ap₂ (λ (r : ℕ × ℕ) (rs : List (ℕ × ℕ)). r ∷ rs) (one_pair p q x.0 y.0 (heads e)) (one_list ps qs x.1 y.1 (tails e)) where
  heads : {a b : List ℕ} {rest more : List (List ℕ)} → a ∷ rest ≡ b ∷ more → a ≡ b
  heads e = cc

  tails : {a b : List ℕ} {rest more : List (List ℕ)} → a ∷ rest ≡ b ∷ more → rest ≡ more
  tails e = cc

-- the pairs of a profile have 32 bits
each_right : (pairs : List (ℕ × ℕ)) → ((k : ℕ) → k < length pairs → IsPairOfWords (get_or pairs k (0, 0))) → AllByRecursion IsPairOfWords pairs
each_right [] h = tt
each_right (pair ∷ pairs) h = (h 0 (omega arith), each_right pairs (λ k l. h (suc k) (omega arith)))

sum_small : (pairs : List (ℕ × ℕ)) → IsProfile pairs → degree_sum pairs < 2 ^ 32
sum_small pairs is = let few = is.few in omega arith

pub profile_of_words : (pairs : List (ℕ × ℕ)) → IsProfile pairs → ArePairsOfWords pairs
profile_of_words pairs is = record {
  some = is.are_pairs.some;
  each = each_right pairs (λ k l. small pairs k l is);
} where
  counted : (degree count sum : ℕ) → 2 ≤ degree → degree * count ≤ sum → count ≤ sum
  counted degree count sum some within = grind arith

  small : (pairs : List (ℕ × ℕ)) (k : ℕ) → k < length pairs → IsProfile pairs → IsPairOfWords (get_or pairs k (0, 0))
  small pairs k l is =
      let right = is.are_pairs.right k l in
      let within = get_or-le-sum_by (λ (p : ℕ × ℕ). p.0 * p.1) pairs k (0, 0) l in
      let sum = sum_small pairs is in
      record {
        degree = let few = right.few in omega arith;
        count = let below = counted (get_or pairs k (0, 0)).0 (get_or pairs k (0, 0)).1 (degree_sum pairs) right.some within in omega arith;
      }

-- and are fewer than 2^32
pub profile_few : (pairs : List (ℕ × ℕ)) → IsProfile pairs → length pairs < 2 ^ 32
profile_few pairs is = let sum = sum_small pairs is in let long = as_many pairs (λ k l. some pairs k l is) in omega arith where
  positive : (degree count : ℕ) → 2 ≤ degree → 0 < count → 0 < degree * count
  positive degree count d c = grind arith

  some : (pairs : List (ℕ × ℕ)) (k : ℕ) → k < length pairs → IsProfile pairs → 0 < (get_or pairs k (0, 0)).0 * (get_or pairs k (0, 0)).1
  some pairs k l is = let right = is.are_pairs.right k l in positive (get_or pairs k (0, 0)).0 (get_or pairs k (0, 0)).1 right.some right.counted

  as_many : (pairs : List (ℕ × ℕ)) → ((k : ℕ) → k < length pairs → 0 < (get_or pairs k (0, 0)).0 * (get_or pairs k (0, 0)).1) → length pairs ≤ degree_sum pairs
  as_many [] h = omega arith
  as_many (pair ∷ pairs) h =
      let first = h 0 (omega arith) in
      let step = sum_by-cons (λ (p : ℕ × ℕ). p.0 * p.1) pair pairs in
      omega (arith, step, as_many pairs (λ k l. h (suc k) (omega arith)))

-- a word spells one profile
pub one_profile : (ps qs : List (ℕ × ℕ)) → IsProfile ps → IsProfile qs → profile_text ps ≡ profile_text qs → ps ≡ qs
one_profile ps qs x y e =
    let xs = profile_of_words ps x in
    let ys = profile_of_words qs y in
    one_list ps qs xs.each ys.each (sym (pieces_of_profile ps xs) ∙ ap (slice_split (λ b. eqb b comma)) e ∙ pieces_of_profile qs ys)

-- a text that is cut at its first colon: what the two parts are, where it spells a pair
cut_at_colon : (text : List ℕ) (r : Option (Bor (List ℕ) × Bor (List ℕ))) (pair : ℕ × ℕ) → IsSplitOnceResult colon text r → IsPairOfWords pair → text ≡ pair_text pair
    → MatchOption r ⊥ (λ x. (x.0.now ≡ decimal pair.0) × (x.1.now ≡ decimal pair.1))
cut_at_colon text r pair cut is e =
    split_after colon text (decimal pair.0) (decimal pair.1) r cut (omega arith) e (no_digit colon pair.0 (degree_fits pair is) (inr (omega arith)))

pub has_colon : (text : List ℕ) (r : Option (Bor (List ℕ) × Bor (List ℕ))) (pair : ℕ × ℕ) → r ≡ None → IsSplitOnceResult colon text r → IsPairOfWords pair → text ≡ pair_text pair → ⊥
has_colon text r pair none cut is e =
    subst (λ (o : Option (Bor (List ℕ) × Bor (List ℕ))). MatchOption o ⊥ (λ x. (x.0.now ≡ decimal pair.0) × (x.1.now ≡ decimal pair.1))) none (cut_at_colon text r pair cut is e)

pub parts_of_pair : (text : List ℕ) (r : Option (Bor (List ℕ) × Bor (List ℕ))) (prefix back : Bor (List ℕ)) (pair : ℕ × ℕ) → r ≡ Some (prefix, back) → IsSplitOnceResult colon text r → IsPairOfWords pair
    → text ≡ pair_text pair → (prefix.now ≡ decimal pair.0) × (back.now ≡ decimal pair.1)
parts_of_pair text r prefix back pair some cut is e =
    subst (λ (o : Option (Bor (List ℕ) × Bor (List ℕ))). MatchOption o ⊥ (λ x. (x.0.now ≡ decimal pair.0) × (x.1.now ≡ decimal pair.1))) some (cut_at_colon text r pair cut is e)

-- the texts so far spell the pairs so far
pub record SpellPairs (texts : List (List ℕ)) (pairs : List (ℕ × ℕ)) : Type 0 where
  pub fit : AllByRecursion IsPairOfWords pairs
  pub spelled : texts ≡ map pair_text pairs

pub no_text : SpellPairs [] []
no_text = record { fit = tt; spelled = refl }

pub one_more_text : (texts others : List (List ℕ)) (text : List ℕ) (pairs more : List (ℕ × ℕ)) (pair : ℕ × ℕ) → SpellPairs texts pairs → others ≡ texts ++ text ∷ []
    → IsPairOfWords pair × (text ≡ pair_text pair) → more ≡ pairs ++ pair ∷ [] → SpellPairs others more
one_more_text texts others text pairs more pair so_far e is f = record {
  fit = subst (AllByRecursion IsPairOfWords) (sym f) (one_more pairs pair so_far.fit is.0);
  spelled = e ∙ ap₂ (λ (ts : List (List ℕ)) (t : List ℕ). ts ++ t ∷ []) so_far.spelled is.1 ∙ sym (ap (map pair_text) f ∙ map-append pair_text pairs (pair ∷ []));
} where
  one_more : (pairs : List (ℕ × ℕ)) (pair : ℕ × ℕ) → AllByRecursion IsPairOfWords pairs → IsPairOfWords pair → AllByRecursion IsPairOfWords (pairs ++ pair ∷ [])
  one_more [] pair all is = (is, tt)
  one_more (first ∷ pairs) pair all is = (all.0, one_more pairs pair all.1 is)

-- where all the pieces of a word are read, the word is that of the pairs
pub all_pairs : (word : List ℕ) (texts : List (List ℕ)) (pairs : List (ℕ × ℕ)) → SpellPairs texts pairs → texts ≡ slice_split (λ b. eqb b comma) word
    → ArePairsOfWords pairs × (word ≡ profile_text pairs)
all_pairs word texts pairs read e = (
  record {
    some = some_pair pairs word (ap length (sym read.spelled ∙ e)) (length-slice_split (λ b. eqb b comma) word);
    each = read.fit;
  },
  sym (join_with_byte-slice_split comma word) ∙ ap (join_with_byte comma) (sym e ∙ read.spelled),
) where
  some_pair : (pairs : List (ℕ × ℕ)) (word : List ℕ) → length (map pair_text pairs) ≡ length (slice_split (λ b. eqb b comma) word)
      → length (slice_split (λ b. eqb b comma) word) ≡ count_by (λ b. eqb b comma) word + 1 → 0 < length pairs
  some_pair pairs word e f = omega (arith, e, f, length-map pairs pair_text)

-- a list that is refused is no profile
pub no_wrong_pair : (pairs : List (ℕ × ℕ)) (place : ℕ) → IsFirst (BreaksPair pairs) place → IsProfile pairs → ⊥
no_wrong_pair pairs place first is = elim first.here [
  | empty none _ ↦ let some = is.are_pairs.some in omega arith
  | wrong within breaks ↦ breaks (is.are_pairs.right place within)
]

pub not_too_many : (pairs : List (ℕ × ℕ)) (edges : ℕ) → HasTooMany pairs edges → IsProfile pairs → ⊥
not_too_many pairs edges why is = let many = why.many in let few = is.few in let counted = why.counted in omega arith

-- a word that spells pairs that are no profile spells none
pub spells_no_profile : (word : List ℕ) (pairs : List (ℕ × ℕ)) → ArePairsOfWords pairs × (word ≡ profile_text pairs) → (IsProfile pairs → ⊥) → (others : List (ℕ × ℕ)) → IsProfile others → word ≢ profile_text others
spells_no_profile word pairs spelled none others is e =
    let are = profile_of_words others is in
    let same : pairs ≡ others =
    one_list pairs others spelled.0.each are.each (sym (pieces_of_profile pairs spelled.0) ∙ ap (slice_split (λ b. eqb b comma)) (sym spelled.1 ∙ e) ∙ pieces_of_profile others are) in
    none (subst IsProfile (sym same) is)

-- where one of the texts spells no pair, the word spells no profile
pub no_pairs : (word text : List ℕ) (k : ℕ) → k < length (slice_split (λ b. eqb b comma) word) → text ≡ get_or (slice_split (λ b. eqb b comma) word) k text
    → ((pair : ℕ × ℕ) → IsPairOfWords pair → text ≢ pair_text pair) → (pairs : List (ℕ × ℕ)) → ArePairsOfWords pairs → word ≢ profile_text pairs
no_pairs word text k l there none pairs are e =
    let pieces : slice_split (λ b. eqb b comma) word ≡ map pair_text pairs = ap (slice_split (λ b. eqb b comma)) e ∙ pieces_of_profile pairs are in
    let within : k < length pairs = subst (λ (n : ℕ). k < n) (ap length pieces ∙ length-map pairs pair_text) l in
    none (get_or pairs k (0, 0)) (right pairs k within are.each)
    (there ∙ ap (λ (ts : List (List ℕ)). get_or ts k text) pieces ∙ get_or-map pair_text pairs k (0, 0) text within) where
      right : (pairs : List (ℕ × ℕ)) (k : ℕ) → k < length pairs → AllByRecursion IsPairOfWords pairs → IsPairOfWords (get_or pairs k (0, 0))
      right [] k l all = absurd (omega arith)
      right (pair ∷ pairs) zero l all = all.0
      right (pair ∷ pairs) (suc k) l all = right pairs k (omega arith) all.1
