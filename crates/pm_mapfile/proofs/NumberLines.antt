-- A line of a tag and numbers, word by word.
use Rattle.std.proofs.Common.{◌≡◌, ◌≢◌, ℕ, Bool, true, false, List, [], ◌∷◌, ◌++◌, length, map, refl, sym, ap, ◌∙◌, subst, arith}
use Rattle.std.specs.Prelude.{All, decimal}
use Rattle.std.specs.List.{join_with_byte, slice_split}
use Rattle.std.specs.Str.{bytes_eq}
use Rattle.std.proofs.lemmas.Slice.Eq.{bytes_eq-Decides}
use Rattle.std.proofs.lemmas.List.Elements.{All-head, All-tail, All-cons, All-weaker, All-map}
use Rattle.pm_text.specs.Broken.{HasNoNewline}
use Rattle.pm_text.specs.Numeral.{IsNumber}
use Rattle.pm_text.specs.Spaced.{is_space, words, HasNoSpace}
use Rattle.pm_text.proofs.LineLemmas.{HasNoNewline-nil, HasNoNewline-cons, HasNoNewline-append}
use Rattle.pm_text.proofs.NumeralLemmas.{number_is_unique, decimal_is_number}
use Rattle.pm_text.proofs.WordLemmas.{join-words, split-join, number_has_no_space, number_has_no_newline}
use Rattle.pm_lists.specs.Numbers.{spaced_numbers}
use Rattle.pm_lists.specs.ListLine.{SpellsList, list_line}
use Rattle.pm_lists.proofs.NumberLemmas.{Fits64, join-tagged, spells_words, words_spelled}
use Rattle.pm_mapfile.specs.steps.Lines.{IsNumbersLine}

spelled_no_space : (numbers : List ℕ) → All Fits64 numbers → All HasNoSpace (map decimal numbers)
spelled_no_space numbers fit =
    All-map HasNoSpace decimal numbers (All-weaker Fits64 (λ n. HasNoSpace (decimal n)) (λ n h. number_has_no_space (decimal n) n (decimal_is_number n h)) numbers fit)

-- the words of such a line
pub words-tagged : (tag numbers : List ℕ) → HasNoSpace tag → tag ≢ [] → All Fits64 numbers → words (tag ++ spaced_numbers numbers) ≡ tag ∷ map decimal numbers
words-tagged [] numbers h some fit = absurd (some refl)
words-tagged (byte ∷ tag) numbers h some fit =
    ap (slice_split is_space) (sym (join-tagged (byte ∷ tag) numbers))
    ∙ split-join (byte ∷ tag) (map decimal numbers) (All-cons HasNoSpace (byte ∷ tag) (map decimal numbers) h (spelled_no_space numbers fit))

-- the line of such words
pub text_of_words : (tag text numbers : List ℕ) → words text ≡ tag ∷ map decimal numbers → text ≡ tag ++ spaced_numbers numbers
text_of_words tag text numbers e = sym (join-words text) ∙ ap (join_with_byte 32) e ∙ join-tagged tag numbers

-- other numbers have other spellings
pub same_numbers : (ns ms : List ℕ) → All Fits64 ns → All Fits64 ms → map decimal ns ≡ map decimal ms → ns ≡ ms
same_numbers [] [] f g e = refl
same_numbers [] (m ∷ ms) f g e = absurd (let l = ap length e in omega arith)
same_numbers (n ∷ ns) [] f g e = absurd (let l = ap length e in omega arith)
same_numbers (n ∷ ns) (m ∷ ms) f g e =
    let first : decimal n ≡ decimal m = cc in
    let more : map decimal ns ≡ map decimal ms = cc in
    let one = decimal_is_number n (All-head Fits64 n ns f) in
    let other = decimal_is_number m (All-head Fits64 m ms g) in
    let same : n ≡ m = number_is_unique (decimal n) n m one (subst (λ w. IsNumber w m) (sym first) other) in
    let rest : ns ≡ ms = same_numbers ns ms (All-tail Fits64 n ns f) (All-tail Fits64 m ms g) more in
    cc

-- a line has one list of numbers
pub numbers_are_unique : (tag text ns ms : List ℕ) → HasNoSpace tag → tag ≢ [] → IsNumbersLine tag text ns → IsNumbersLine tag text ms → ns ≡ ms
numbers_are_unique tag text ns ms h some one other =
    let e : tag ∷ map decimal ns ≡ tag ∷ map decimal ms =
    sym (words-tagged tag ns h some one.fit) ∙ ap words (sym one.spelled ∙ other.spelled) ∙ words-tagged tag ms h some other.fit in
    let spelled : map decimal ns ≡ map decimal ms = cc in
    same_numbers ns ms one.fit other.fit spelled

-- no newline stands in such a line
pub spaced_no_newline : (numbers : List ℕ) → All Fits64 numbers → HasNoNewline (spaced_numbers numbers)
spaced_no_newline [] fit = HasNoNewline-nil
spaced_no_newline (n ∷ numbers) fit =
    HasNoNewline-cons 32 (decimal n ++ spaced_numbers numbers) (omega arith)
    (HasNoNewline-append (decimal n) (spaced_numbers numbers) (number_has_no_newline (decimal n) n (decimal_is_number n (All-head Fits64 n numbers fit)))
    (spaced_no_newline numbers (All-tail Fits64 n numbers fit)))

-- a line of a list is one of the list's numbers
pub list_line_tagged : (tag numbers : List ℕ) → list_line tag numbers ≡ tag ++ spaced_numbers numbers
list_line_tagged tag numbers = join-tagged tag numbers

pub numbers_of_list : (tag text numbers : List ℕ) → SpellsList tag text numbers → IsNumbersLine tag text numbers
numbers_of_list tag text numbers s =
    let words = words_spelled tag text numbers s in record { fit = words.0.each; spelled = words.1 }

pub list_of_numbers : (tag text numbers : List ℕ) → IsNumbersLine tag text numbers → SpellsList tag text numbers
list_of_numbers tag text numbers line =
    spells_words tag text (spaced_numbers numbers) numbers line.spelled (record { each = line.fit }) refl

-- what a test that bytes are the same tells
pub told_equal : (xs ys : List ℕ) (r : Bool) → r ≡ bytes_eq xs ys → r ≡ true → xs ≡ ys
told_equal xs ys r is e = (bytes_eq-Decides xs ys).0 (sym is ∙ e)

pub told_unequal : (xs ys : List ℕ) (r : Bool) → r ≡ bytes_eq xs ys → r ≡ false → xs ≢ ys
told_unequal xs ys r is e same = let yes = (bytes_eq-Decides xs ys).1 same in clash (sym yes ∙ sym is ∙ e) where
  clash : true ≡ false → ⊥
  clash h = cc
