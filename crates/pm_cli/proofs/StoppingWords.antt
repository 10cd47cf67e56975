-- How many words begin words of a set.
use Rattle.std.proofs.Common.{◌≡◌, ℕ, true, false, zero, suc, ◌+◌, ◌^◌, ◌<◌, ◌≤◌, List, [], ◌∷◌, length, take, map, refl, sym, ap, ◌∙◌, subst, arith}
use Rattle.std.specs.Prelude.{decimal, IsTrue, ◌==◌}
use Rattle.std.proofs.lemmas.Bool.Decides.{nat_tests}
use Rattle.std.proofs.lemmas.List.{length-map}
use Rattle.pm_cli.specs.declared.class.Class.{Class}
use Rattle.pm_cli.specs.declared.class.Class.TheVariants as class
use Rattle.pm_cli.specs.declared.class.Size.{Size}
use Rattle.pm_cli.specs.declared.words.TheConstants.{MAX_RECORDS}
use Rattle.pm_cli.specs.Classes.{IsSize, class_of, class_word, size_word}
use Rattle.pm_cli.specs.Commands.{size_words, number_words, AreDrawNumbers}
use Rattle.pm_cli.specs.steps.Words.{StopsAt, IsOneOf, AreSizeWords, AreNumberWords, AreSizedWords}
use Rattle.pm_cli.proofs.ClassLaws.{one_class, some_size}

-- no words
pub no_words : {X : Type 0} (f : X → List ℕ) (xs : List X) → length xs ≡ 0 → map f xs ≡ []
no_words f [] e = refl
no_words f (x ∷ xs) e = absurd (omega arith)

pub empty : (n : ℕ) → true ≡ (n == 0) → n ≡ 0
empty n e = grind (arith, nat_tests)

pub filled : (n : ℕ) → false ≡ (n == 0) → 0 < n
filled n e = grind (arith, nat_tests)

-- some words
pub some_words : {X : Type 0} (f : X → List ℕ) (xs : List X) → false ≡ (length xs == 0) → 0 < length (map f xs)
some_words f xs e = let l = length-map xs f in let some = filled (length xs) e in omega arith

pub false_true : IsTrue false → ⊥
false_true e = cc

pub first_words : {a b : List ℕ} {v w : List (List ℕ)} → ◌≡◌ {A = List (List ℕ)} (a ∷ v) (b ∷ w) → a ≡ b
first_words e = cc

pub later_words : {a b : List ℕ} {v w : List (List ℕ)} → ◌≡◌ {A = List (List ℕ)} (a ∷ v) (b ∷ w) → v ≡ w
later_words e = cc

pub no_first : {b : List ℕ} {w : List (List ℕ)} → ◌≡◌ {A = List (List ℕ)} [] (b ∷ w) → ⊥
no_first e = cc

some_first : {b : List ℕ} {w : List (List ℕ)} → ◌≡◌ {A = List (List ℕ)} (b ∷ w) [] → ⊥
some_first e = cc

no_word_more : (rest : List (List ℕ)) → 0 < length rest → take 1 rest ≡ [] → ⊥
no_word_more [] l e = omega arith
no_word_more (x ∷ rest) l e = some_first e

-- no word begins a word of the set
pub none_begins : (S : List (List ℕ) → Type 0) (words whole : List (List ℕ)) → S whole
    → ((other : List (List ℕ)) → S other → take 1 words ≡ take 1 other → ⊥) → StopsAt S words 0
none_begins S words whole is none = record { whole = whole; is_in = is; within = omega arith; same = refl; no_more = none }

-- one word of some kind, where there is one
module _ (P : List ℕ → Type 0) (some : List ℕ) (good : P some) where
  one : IsOneOf P (some ∷ [])
  one = record { word = some; is = good; alone = refl }

  -- there is none
  pub missing_word : (words : List (List ℕ)) → words ≡ [] → StopsAt (IsOneOf P) words 0
  missing_word words e = none_begins (IsOneOf P) words (some ∷ []) one (λ other is same. no_first (ap (take 1) (sym e) ∙ same ∙ ap (take 1) is.alone))

  -- another stands first
  pub other_word : (words : List (List ℕ)) (first : List ℕ) (rest : List (List ℕ)) → words ≡ first ∷ rest → (P first → ⊥) → StopsAt (IsOneOf P) words 0
  other_word words first rest e bad =
      none_begins (IsOneOf P) words (some ∷ []) one (λ other is same. bad (subst P (sym (first_words (ap (take 1) (sym e) ∙ same ∙ ap (take 1) is.alone))) is.is))

  -- more words stand behind it
  pub words_after : (words : List (List ℕ)) (first : List ℕ) (rest : List (List ℕ)) → words ≡ first ∷ rest → P first → 0 < length rest → StopsAt (IsOneOf P) words 1
  words_after words first rest e is more = record {
    whole = first ∷ [];
    is_in = record { word = first; is = is; alone = refl };
    within = omega (arith, ap length e);
    same = ap (take 1) e;
    no_more = λ other h same. no_word_more rest more (later_words (ap (take 2) (sym e) ∙ same ∙ ap (take 2) h.alone));
  }

size_set : (size : Size) → IsSize size → AreSizeWords (size_words size [])
size_set size is = record { size = size; admissible = is; are = refl }

-- no class stands first
pub no_class_first : (words : List (List ℕ)) → ((size : Size) → take 1 words ≡ class_word (class_of size) ∷ [] → ⊥) → StopsAt AreSizeWords words 0
no_class_first words none =
    let some = some_size class.Quartic in
    none_begins AreSizeWords words (size_words some.size []) (size_set some.size some.holds) (λ other is e. none is.size (e ∙ ap (take 1) is.are))

-- a class, and no size of it behind
pub no_size_behind : (words rest : List (List ℕ)) (class : Class) → words ≡ class_word class ∷ rest
    → ((size : Size) → class_of size ≡ class → IsSize size → take 1 rest ≡ size_word size ∷ [] → ⊥) → StopsAt AreSizeWords words 1
no_size_behind words rest class e none =
    let some = some_size class in
    record {
      whole = size_words some.size [];
      is_in = size_set some.size some.holds;
      within = omega (arith, ap length e);
      same = ap (take 1) e ∙ ap (λ (c : Class). class_word c ∷ []) (sym some.is_of);
      no_more = λ other is same.
          let both : class_word class ∷ take 1 rest ≡ class_word (class_of is.size) ∷ size_word is.size ∷ [] = ap (take 2) (sym e) ∙ same ∙ ap (take 2) is.are in
          none is.size (sym (one_class class (class_of is.size) (first_words both))) is.admissible (later_words both);
    }

-- a class and a size of it, and more words
pub words_after_size : (words rest : List (List ℕ)) (size : Size) → words ≡ size_words size rest → IsSize size → 0 < length rest → StopsAt AreSizeWords words 2
words_after_size words rest size e is more = record {
  whole = size_words size [];
  is_in = size_set size is;
  within = omega (arith, ap length e);
  same = ap (take 2) e;
  no_more = λ other h same. no_word_more rest more (later_words (later_words (ap (take 3) (sym e) ∙ same ∙ ap (take 3) h.are)));
}

pub some_numbers : AreNumberWords (number_words 0 1)
some_numbers = record { seed = 0; count = 1; numbers = record { fits = omega arith; some = omega arith; few = omega arith }; are = refl }

-- no seed stands first
pub no_seed_first : (words : List (List ℕ)) → ((seed : ℕ) → seed < 2 ^ 64 → take 1 words ≡ decimal seed ∷ [] → ⊥) → StopsAt AreNumberWords words 0
no_seed_first words none = none_begins AreNumberWords words (number_words 0 1) some_numbers (λ other is e. let n = is.numbers in none is.seed n.fits (e ∙ ap (take 1) is.are))

-- a seed, and no count behind
pub no_count_behind : (words rest : List (List ℕ)) (seed : ℕ) → words ≡ decimal seed ∷ rest → seed < 2 ^ 64
    → ((count : ℕ) → 0 < count → count ≤ MAX_RECORDS → take 1 rest ≡ decimal count ∷ [] → ⊥) → StopsAt AreNumberWords words 1
no_count_behind words rest seed e fits none = record {
  whole = number_words seed 1;
  is_in = record { seed = seed; count = 1; numbers = record { fits = fits; some = omega arith; few = omega arith }; are = refl };
  within = omega (arith, ap length e);
  same = ap (take 1) e;
  no_more = λ other is same. let n = is.numbers in none is.count n.some n.few (later_words (ap (take 2) (sym e) ∙ same ∙ ap (take 2) is.are));
}

-- both, and more words
pub words_after_numbers : (words rest : List (List ℕ)) (seed count : ℕ) → words ≡ decimal seed ∷ decimal count ∷ rest → AreDrawNumbers seed count → 0 < length rest
    → StopsAt AreNumberWords words 2
words_after_numbers words rest seed count e numbers more = record {
  whole = number_words seed count;
  is_in = record { seed = seed; count = count; numbers = numbers; are = refl };
  within = omega (arith, ap length e);
  same = ap (take 2) e;
  no_more = λ other h same. no_word_more rest more (later_words (later_words (ap (take 3) (sym e) ∙ same ∙ ap (take 3) h.are)));
}

-- where numbers of a set stand behind a class and a size of it
module _ (behind : List (List ℕ) → Type 0) where
  -- words that begin no class and size begin none with such numbers behind
  pub no_size_before : (words some : List (List ℕ)) (k : ℕ) → behind some → k < 2 → StopsAt AreSizeWords words k → StopsAt (AreSizedWords behind) words k
  no_size_before words some k good l stops = record {
    whole = size_words is.size some;
    is_in = record { size = is.size; admissible = is.admissible; rest = some; numbers = good; are = refl };
    within = stops.within;
    same = stops.same ∙ ap (take k) is.are ∙ shorter k is.size some l;
    no_more = λ other h e.
        let size = h.size in
        stops.no_more (size_words size []) (size_set size h.admissible) (e ∙ ap (take (suc k)) h.are ∙ sym (longer k size h.rest l));
  } where
    is : AreSizeWords stops.whole
    is = stops.is_in

    shorter : (k : ℕ) (size : Size) (rest : List (List ℕ)) → k < 2 → take k (size_words size []) ≡ take k (size_words size rest)
    shorter zero size rest l = refl
    shorter (suc zero) size rest l = refl
    shorter (suc (suc k)) size rest l = absurd (omega arith)

    longer : (k : ℕ) (size : Size) (rest : List (List ℕ)) → k < 2 → take (suc k) (size_words size []) ≡ take (suc k) (size_words size rest)
    longer zero size rest l = refl
    longer (suc zero) size rest l = refl
    longer (suc (suc k)) size rest l = absurd (omega arith)

  -- a class and a size of it, and no such numbers behind
  pub none_after_size : (words rest : List (List ℕ)) (size : Size) (k : ℕ) → words ≡ size_words size rest → IsSize size → StopsAt behind rest k
      → StopsAt (AreSizedWords behind) words (2 + k)
  none_after_size words rest size k e is stops =
      subst (λ (n : ℕ). StopsAt (AreSizedWords behind) words n) (omega arith) (subst (λ (w : List (List ℕ)). StopsAt (AreSizedWords behind) w (suc (suc k))) (sym e) (record {
        whole = size_words size stops.whole;
        is_in = record { size = size; admissible = is; rest = stops.whole; numbers = stops.is_in; are = refl };
        within = let l = stops.within in omega arith;
        same = ap (size_words size) stops.same;
        no_more = λ other h same. stops.no_more h.rest h.numbers (later_words (later_words (same ∙ ap (take (suc (suc (suc k)))) h.are)));
      }))
