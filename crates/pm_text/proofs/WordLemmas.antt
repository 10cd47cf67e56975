-- How a line falls into words.
use Rattle.std.proofs.Common.{◌≡◌, ◌≢◌, ℕ, ◌+◌, ◌<◌, ◌≤◌, false, eqb, List, [], ◌∷◌, ◌++◌, length, take, drop, get_or, refl, ap, ◌∙◌, subst, inl, inr, arith}
use Rattle.std.specs.Prelude.{All}
use Rattle.std.specs.List.{slice_split, onto_first, join_with_byte, AllByRecursion}
use Rattle.std.proofs.lemmas.Bool.{ne_eqb, cases_Bool, eqb-false}
use Rattle.std.proofs.lemmas.List.{get_or-take, length-take-le, take_all}
use Rattle.std.proofs.lemmas.List.Elements.{All-nil, All-head, All-tail, All-cons, All-append, All-weaker, All-from_get_or, All-from_recursion}
use Rattle.std.proofs.lemmas.List.Splits.{slice_split_at, slice_split_none, join_with_byte-slice_split}
use Rattle.std.proofs.lemmas.Str.Parse.{digit_at}
use Rattle.pm_text.specs.Broken.{newline, HasNoNewline}
use Rattle.pm_text.specs.Numeral.{IsNumber}
use Rattle.pm_text.specs.Spaced.{is_space, words, HasNoSpace}
use Rattle.pm_text.proofs.ReadingLemmas.{cut_around}

pub HasNoSpace-nil : HasNoSpace []
HasNoSpace-nil = record { each = All-nil (λ b. b ≢ 32) }

pub HasNoSpace-cons : (byte : ℕ) (word : List ℕ) → byte ≢ 32 → HasNoSpace word → HasNoSpace (byte ∷ word)
HasNoSpace-cons byte word ne h = record { each = All-cons (λ b. b ≢ 32) byte word ne h.each }

pub HasNoSpace-append : (prefix back : List ℕ) → HasNoSpace prefix → HasNoSpace back → HasNoSpace (prefix ++ back)
HasNoSpace-append prefix back f b = record { each = All-append (λ b. b ≢ 32) prefix back f.each b.each }

-- no space stands before a place
pub HasNoSpace-take : (bytes : List ℕ) (place : ℕ) → place ≤ length bytes → ((k : ℕ) → k < place → get_or bytes k 0 ≢ 32) → HasNoSpace (take place bytes)
HasNoSpace-take bytes place within none = record {
  each = All-from_get_or (λ byte. byte ≢ 32) (take place bytes) 0
      (λ k less.
      let below : k < place = omega (arith, length-take-le place bytes within) in
      rw (get_or-take place bytes k 0 below) (none k below));
}

no_space_passes : (word : List ℕ) → HasNoSpace word → All (λ byte. is_space byte ≡ false) word
no_space_passes word h = All-weaker (λ byte. byte ≢ 32) (λ byte. is_space byte ≡ false) (λ byte ne. ne_eqb byte 32 ne) word h.each

-- a word and a space after it are split off
pub split-append_word : (word rest : List ℕ) → HasNoSpace word → slice_split is_space (word ++ 32 ∷ rest) ≡ word ∷ slice_split is_space rest
split-append_word word rest h = slice_split_at is_space word 32 rest (no_space_passes word h) refl

-- bytes with no space are one word
pub split-word : (word : List ℕ) → HasNoSpace word → slice_split is_space word ≡ word ∷ []
split-word word h = slice_split_none is_space word (no_space_passes word h)

pub words-some : (text : List ℕ) → text ≢ [] → words text ≡ slice_split is_space text
words-some [] some = absurd (some refl)
words-some (byte ∷ bytes) some = refl

pub words-word : (word : List ℕ) → HasNoSpace word → word ≢ [] → words word ≡ word ∷ []
words-word word h some = words-some word some ∙ split-word word h

pub words-append_word : (word rest : List ℕ) → HasNoSpace word → words (word ++ 32 ∷ rest) ≡ word ∷ slice_split is_space rest
words-append_word [] rest h = split-append_word [] rest h
words-append_word (byte ∷ word) rest h = split-append_word (byte ∷ word) rest h

-- the words with single spaces between them are the text
pub join-words : (text : List ℕ) → join_with_byte 32 (words text) ≡ text
join-words [] = refl
join-words (byte ∷ bytes) = join_with_byte-slice_split 32 (byte ∷ bytes)

-- words without spaces, joined by single spaces, are split into the same words
pub split-join : (first : List ℕ) (more : List (List ℕ)) → All HasNoSpace (first ∷ more) → slice_split is_space (join_with_byte 32 (first ∷ more)) ≡ first ∷ more
split-join first [] all = split-word first (All-head HasNoSpace first [] all)
split-join first (next ∷ more) all =
    split-append_word first (join_with_byte 32 (next ∷ more)) (All-head HasNoSpace first (next ∷ more) all)
    ∙ ap (λ ws. first ∷ ws) (split-join next more (All-tail HasNoSpace first (next ∷ more) all))

no_space_onto : (byte : ℕ) (ws : List (List ℕ)) → byte ≢ 32 → AllByRecursion HasNoSpace ws → AllByRecursion HasNoSpace (onto_first byte ws)
no_space_onto byte [] ne all = (HasNoSpace-cons byte [] ne HasNoSpace-nil, tt)
no_space_onto byte (word ∷ ws) ne all = (HasNoSpace-cons byte word ne all.0, all.1)

no_space_split : (text : List ℕ) → AllByRecursion HasNoSpace (slice_split is_space text)
no_space_split [] = (HasNoSpace-nil, tt)
no_space_split (byte ∷ text) =
    elim (cases_Bool (eqb byte 32)) [
      | inl e ↦ rw e (HasNoSpace-nil, no_space_split text)
      | inr e ↦ rw e (no_space_onto byte (slice_split is_space text) (eqb-false byte 32 e) (no_space_split text))
    ]

-- no word has a space
pub words_have_no_space : (text : List ℕ) → All HasNoSpace (words text)
words_have_no_space [] = All-nil HasNoSpace
words_have_no_space (byte ∷ text) = All-from_recursion HasNoSpace (slice_split is_space (byte ∷ text)) (no_space_split (byte ∷ text))

-- the word before the first space, and the words after it
pub split-at_space : (rest : List ℕ) (place : ℕ) → place < length rest → ((k : ℕ) → k < place → get_or rest k 0 ≢ 32) → get_or rest place 0 ≡ 32 → slice_split is_space rest ≡ take place rest ∷ slice_split is_space (drop (place + 1) rest)
split-at_space rest place less none found =
    ap (slice_split is_space) (cut_around rest place less ∙ ap (λ byte. take place rest ++ byte ∷ drop (place + 1) rest) found)
    ∙ split-append_word (take place rest) (drop (place + 1) rest) (HasNoSpace-take rest place (omega arith) none)

-- the last word, where there is no space
pub split-last : (rest : List ℕ) (place : ℕ) → place ≡ length rest → ((k : ℕ) → k < place → get_or rest k 0 ≢ 32) → slice_split is_space rest ≡ take place rest ∷ []
split-last rest place all none =
    let same : take place rest ≡ rest = take_all place rest (omega arith) in
    rw same (split-word rest (subst HasNoSpace same (HasNoSpace-take rest place (omega arith) none)))

-- what spells a number has neither a space nor a newline
pub number_has_no_space : (word : List ℕ) (number : ℕ) → IsNumber word number → HasNoSpace word
number_has_no_space word number is = record {
  each = All-from_get_or (λ byte. byte ≢ 32) word 0 (λ k less e. let digit = digit_at word k is.numeral.1 less in absurd (omega arith));
}

pub number_has_no_newline : (word : List ℕ) (number : ℕ) → IsNumber word number → HasNoNewline word
number_has_no_newline word number is = record {
  each = All-from_get_or (λ byte. byte ≢ newline) word 0 (λ k less e. let digit = digit_at word k is.numeral.1 less in absurd (omega arith));
}
