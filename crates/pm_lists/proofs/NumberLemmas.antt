-- Numbers of a line, each after a space: read and put one by one.
use Rattle.std.proofs.Common.{◌≡◌, ◌≢◌, ℕ, suc, ◌+◌, ◌-◌, ◌*◌, ◌<◌, ◌≤◌, ◌^◌, List, [], ◌∷◌, ◌++◌, length, take, drop, set, get_or, refl, sym, ap, ◌∙◌, subst, arith, append_assoc, length-append, add-zero}
use Rattle.std.specs.Prelude.{All, decimal, map}
use Rattle.std.specs.List.{join_with_byte}
use Rattle.std.proofs.Math.Nat.{suc-mul}
use Rattle.std.proofs.Math.Seq.{take-add}
use Rattle.std.proofs.lemmas.Fmt.{length-decimal-le}
use Rattle.std.proofs.lemmas.List.{append-nil, drop_more, take_more, drop-drop, length-drop, drop_at, take_all, drop_all, get_or-drop, drop-set, length-set, append_cancel_left}
use Rattle.std.proofs.lemmas.List.Elements.{All-nil, All-head, All-tail, All-push, All-drop, All-weaker, All-from_get_or}
use Rattle.pm_text.specs.Numeral.{HasDigit, IsLeadingNumber}
use Rattle.pm_text.proofs.LeadingLemmas.{leading_is_unique, leading-decimal}
use Rattle.pm_text.proofs.NumeralLemmas.{number_is_decimal}
use Rattle.pm_text.specs.Broken.{newline}
use Rattle.pm_lists.specs.ListLine.{AreWords, SpellsList, list_line}
use Rattle.pm_lists.specs.Numbers.{spaced_numbers}
use Rattle.pm_lists.specs.steps.Numbers.{EndsNumbers, HasLater, IsReadingNumbers, ArePut}
use Rattle.pm_lists.proofs.SpellingLemmas.{has_one_line}

abbrev pub Fits64 : ℕ → Type 0
Fits64 number = number < 2 ^ 64

pub spaced_numbers-append : (first second : List ℕ) → spaced_numbers (first ++ second) ≡ spaced_numbers first ++ spaced_numbers second
spaced_numbers-append [] second = refl
spaced_numbers-append (n ∷ first) second =
    ap (λ l. 32 ∷ decimal n ++ l) (spaced_numbers-append first second) ∙ sym (append_assoc (32 ∷ decimal n) (spaced_numbers first) (spaced_numbers second))

-- nothing ends numbers, and so does a byte that is neither a digit nor a space
pub ends_at_nothing : EndsNumbers []
ends_at_nothing = record { no_digit = λ h. omega (arith, h.within); no_space = λ some. absurd (omega (arith, some)) }

-- the bytes begin with the tag
pub reading_begins : (tag bytes : List ℕ) → length tag ≤ length bytes → take (length tag) bytes ≡ tag → IsReadingNumbers tag bytes (length tag) []
reading_begins tag bytes within tagged = record {
  within = within;
  prefix = tagged ∙ sym (append-nil tag);
  fit = All-nil Fits64;
  onward = λ whole tail fit ends e. record {
    later = whole;
    whole_is = refl;
    rest_is = ap (drop (length tag)) e ∙ drop_at tag (spaced_numbers whole ++ tail) (length tag) refl;
  };
}

-- a space comes before a number
record HasNumber (later rest tail : List ℕ) : Type 0 where
  number : ℕ
  others : List ℕ
  later_is : later ≡ number ∷ others
  rest_is : rest ≡ decimal number ++ (spaced_numbers others ++ tail)

number_after_space : (later rest tail : List ℕ) → EndsNumbers tail → 32 ∷ rest ≡ spaced_numbers later ++ tail → HasNumber later rest tail
number_after_space [] rest tail ends e = absurd (ends.no_space (omega (arith, ap length e)) (sym (ap (λ l. get_or l 0 0) e)))
number_after_space (number ∷ others) rest tail ends e = record {
  number = number;
  others = others;
  later_is = refl;
  rest_is = ap (drop 1) e ∙ append_assoc (decimal number) (spaced_numbers others) tail;
}

-- no digit comes after a number
no_digit : (others tail : List ℕ) → EndsNumbers tail → HasDigit (spaced_numbers others ++ tail) 0 → ⊥
no_digit [] tail ends h = ends.no_digit h
no_digit (number ∷ others) tail ends h = omega (arith, h.digit)

-- the number after a space is the one at the prefix
pub record IsNextNumber (numbers whole rest tail : List ℕ) : Type 0 where
  pub number : ℕ
  pub others : List ℕ
  pub whole_is : whole ≡ (numbers ++ number ∷ []) ++ others
  pub rest_is : rest ≡ decimal number ++ (spaced_numbers others ++ tail)
  pub leads : IsLeadingNumber rest number (length (decimal number))

pub next_number : (tag bytes : List ℕ) (place : ℕ) (numbers whole tail : List ℕ) → IsReadingNumbers tag bytes place numbers → place < length bytes → get_or bytes place 0 ≡ 32
    → All Fits64 whole → EndsNumbers tail → bytes ≡ tag ++ (spaced_numbers whole ++ tail) → IsNextNumber numbers whole (drop (place + 1) bytes) tail
next_number tag bytes place numbers whole tail r h space fit ends e =
    let on = r.onward whole tail fit ends e in
    let rest : List ℕ = drop (place + 1) bytes in
    let here : drop place bytes ≡ 32 ∷ rest = drop_more bytes place 0 h ∙ ap (λ b. b ∷ rest) space in
    let n = number_after_space on.later rest tail ends (sym here ∙ on.rest_is) in
    let all : whole ≡ numbers ++ n.number ∷ n.others = on.whole_is ∙ ap (λ l. numbers ++ l) n.later_is in
    let fits : n.number < 2 ^ 64 =
    All-head Fits64 n.number n.others
    (subst (All Fits64) (drop_at numbers (n.number ∷ n.others) (length numbers) refl) (All-drop Fits64 (length numbers) (numbers ++ n.number ∷ n.others) (subst (All Fits64) all fit))) in
    record {
      number = n.number;
      others = n.others;
      whole_is = all ∙ sym (append_assoc numbers (n.number ∷ []) n.others);
      rest_is = n.rest_is;
      leads = subst (λ l. IsLeadingNumber l n.number (length (decimal n.number))) (sym n.rest_is) (leading-decimal n.number (spaced_numbers n.others ++ tail) fits (no_digit n.others tail ends));
    }

-- one number more
pub reading_more : (tag bytes : List ℕ) (place : ℕ) (numbers : List ℕ) (number count : ℕ) → IsReadingNumbers tag bytes place numbers → place < length bytes → get_or bytes place 0 ≡ 32
    → IsLeadingNumber (drop (place + 1) bytes) number count → IsReadingNumbers tag bytes (place + (1 + count)) (numbers ++ number ∷ [])
reading_more tag bytes place numbers number count r h space leads =
    let rest : List ℕ = drop (place + 1) bytes in
    let here : drop place bytes ≡ 32 ∷ rest = drop_more bytes place 0 h ∙ ap (λ b. b ∷ rest) space in
    let word : take count rest ≡ decimal number = sym (number_is_decimal (take count rest) number leads.word) in
    let past : drop (place + (1 + count)) bytes ≡ drop count rest = sym (drop-drop (1 + count) place bytes) ∙ ap (drop (1 + count)) here ∙ ap (λ n. drop n (32 ∷ rest)) (one_more count) in
    let prefix : take (place + (1 + count)) bytes ≡ (tag ++ spaced_numbers numbers) ++ (32 ∷ decimal number) =
    take-add place (1 + count) bytes ∙ ap (λ l. l ++ take (1 + count) (drop place bytes)) r.prefix
    ∙ ap (λ l. (tag ++ spaced_numbers numbers) ++ take (1 + count) l) here ∙ ap (λ n. (tag ++ spaced_numbers numbers) ++ take n (32 ∷ rest)) (one_more count)
    ∙ ap (λ l. (tag ++ spaced_numbers numbers) ++ 32 ∷ l) word in
    record {
      within = omega (arith, leads.within, length-drop (place + 1) bytes, h);
      prefix = prefix ∙ append_assoc tag (spaced_numbers numbers) (32 ∷ decimal number)
          ∙ ap (λ l. tag ++ (spaced_numbers numbers ++ 32 ∷ l)) (sym (append-nil (decimal number))) ∙ ap (λ l. tag ++ l) (sym (spaced_numbers-append numbers (number ∷ [])));
      fit = All-push Fits64 numbers number r.fit leads.word.fits;
      onward = λ whole tail fit ends e.
          let n = next_number tag bytes place numbers whole tail r h space fit ends e in
          let same = leading_is_unique rest number n.number count (length (decimal n.number)) leads n.leads in
          record {
            later = n.others;
            whole_is = n.whole_is ∙ ap (λ d. (numbers ++ d ∷ []) ++ n.others) (sym same.1);
            rest_is = past ∙ ap (λ k. drop k rest) same.0 ∙ ap (drop (length (decimal n.number))) n.rest_is
                ∙ drop_at (decimal n.number) (spaced_numbers n.others ++ tail) (length (decimal n.number)) refl;
          };
    } where
      one_more : (n : ℕ) → 1 + n ≡ suc n
      one_more n = omega arith

-- all bytes are read
pub reading_ends : (tag bytes : List ℕ) (place : ℕ) (numbers : List ℕ) → IsReadingNumbers tag bytes place numbers → length bytes ≤ place → bytes ≡ tag ++ spaced_numbers numbers
reading_ends tag bytes place numbers r all = sym (take_all place bytes all) ∙ r.prefix

pub at_prefix : (bytes : List ℕ) (place x : ℕ) (xs : List ℕ) → drop place bytes ≡ x ∷ xs → get_or bytes place 0 ≡ x
at_prefix bytes place x xs e = ap (λ n. get_or bytes n 0) (sym (add-zero place)) ∙ sym (get_or-drop place bytes 0 0) ∙ ap (λ l. get_or l 0 0) e

-- where no space stands, no number is to come
pub record IsLast (numbers whole rest tail : List ℕ) : Type 0 where
  pub whole_is : whole ≡ numbers
  pub rest_is : rest ≡ tail

pub last_number : (bytes : List ℕ) (place : ℕ) (numbers whole tail : List ℕ) → HasLater numbers whole (drop place bytes) tail → (place < length bytes → get_or bytes place 0 ≢ 32) → IsLast numbers whole (drop place bytes) tail
last_number bytes place numbers whole tail on other = last on.later on.whole_is on.rest_is where
  last : (later : List ℕ) → whole ≡ numbers ++ later → drop place bytes ≡ spaced_numbers later ++ tail → IsLast numbers whole (drop place bytes) tail
  last [] whole_is rest_is = record { whole_is = whole_is ∙ append-nil numbers; rest_is = rest_is }
  last (number ∷ later) whole_is rest_is =
      let first : get_or bytes place 0 ≡ 32 = at_prefix bytes place 32 ((decimal number ++ spaced_numbers later) ++ tail) rest_is in
      absurd (other (omega (arith, ap length rest_is, length-drop place bytes)) first)

-- bytes that are no numbers
abbrev pub AreNoNumbers : List ℕ → Type 0
AreNoNumbers bytes = (values : List ℕ) → AreWords values → bytes ≢ spaced_numbers values

with_nothing : (bytes values : List ℕ) → bytes ≡ spaced_numbers values → bytes ≡ [] ++ (spaced_numbers values ++ [])
with_nothing bytes values e = e ∙ sym (append-nil (spaced_numbers values))

-- bytes go on with no space
pub no_space_follows : (bytes : List ℕ) (place : ℕ) (numbers : List ℕ) → IsReadingNumbers [] bytes place numbers → place < length bytes → get_or bytes place 0 ≢ 32 → AreNoNumbers bytes
no_space_follows bytes place numbers r h other values fit e =
    let last = last_number bytes place numbers values [] (r.onward values [] fit.each ends_at_nothing (with_nothing bytes values e)) (λ _. other) in
    omega (arith, h, ap length last.rest_is, length-drop place bytes)

-- after a space stands no number
pub no_number_follows : (bytes : List ℕ) (place : ℕ) (numbers : List ℕ) → IsReadingNumbers [] bytes place numbers → place < length bytes → get_or bytes place 0 ≡ 32
    → ((value count : ℕ) → IsLeadingNumber (drop (place + 1) bytes) value count → ⊥) → AreNoNumbers bytes
no_number_follows bytes place numbers r h space none values fit e =
    let n = next_number [] bytes place numbers values [] r h space fit.each ends_at_nothing (with_nothing bytes values e) in
    none n.number (length (decimal n.number)) n.leads

-- the words of numbers with at most so many digits
pub words_few : (digits : ℕ) (numbers : List ℕ) → 0 < digits → All (λ number. number < 10 ^ digits) numbers → All Fits64 numbers → length (spaced_numbers numbers) ≤ length numbers * suc digits
words_few digits [] some low fit = omega arith
words_few digits (number ∷ numbers) some low fit =
    let here = length-decimal-le digits number some (All-head (λ n. n < 10 ^ digits) number numbers low) (All-head Fits64 number numbers fit) in
    let rest = words_few digits numbers some (All-tail (λ n. n < 10 ^ digits) number numbers low) (All-tail Fits64 number numbers fit) in
    omega (arith, here, rest, length-append (decimal number) (spaced_numbers numbers), suc-mul (length numbers) (suc digits))

-- nothing is put yet
pub put_none : (numbers bytes : List ℕ) → length (spaced_numbers numbers) ≤ length bytes → ArePut numbers bytes (length numbers) (length bytes)
put_none numbers bytes room = record {
  within = omega arith;
  room = subst (λ l. length (spaced_numbers l) ≤ length bytes) (sym (take_all (length numbers) numbers (omega arith))) room;
  inside = omega arith;
  put = drop_all (length bytes) bytes (omega arith) ∙ ap spaced_numbers (sym (drop_all (length numbers) numbers (omega arith)));
}

-- the words up to a number, and the number's
words_to : (numbers : List ℕ) (left : ℕ) → left < length numbers
    → length (spaced_numbers (take (left + 1) numbers)) ≡ length (spaced_numbers (take left numbers)) + (1 + length (decimal (get_or numbers left 0)))
words_to numbers left h =
    let number = get_or numbers left 0 in
    omega (
      arith,
      ap (λ l. length (spaced_numbers l)) (take_more numbers left 0 h),
      ap length (spaced_numbers-append (take left numbers) (number ∷ [])),
      length-append (spaced_numbers (take left numbers)) (spaced_numbers (number ∷ [])),
      length-append (decimal number) [],
    )

-- there is room for one number more, with a space before it
pub room_for : (numbers bytes : List ℕ) (left start : ℕ) → ArePut numbers bytes (left + 1) start → 1 + length (decimal (get_or numbers left 0)) ≤ start
room_for numbers bytes left start p = omega (arith, p.room, words_to numbers left (omega (arith, p.within)))

-- one number more
pub put_more : (numbers bytes new : List ℕ) (left start digits : ℕ) → ArePut numbers bytes (left + 1) start → digits + length (decimal (get_or numbers left 0)) ≡ start
    → drop digits new ≡ decimal (get_or numbers left 0) ++ drop start bytes → length new ≡ length bytes → ArePut numbers (set new (digits - 1) 32) left (digits - 1)
put_more numbers bytes new left start digits p at written size =
    let number = get_or numbers left 0 in
    let less : left < length numbers = omega (arith, p.within) in
    let room = words_to numbers left less in
    let some : digits - 1 + 1 ≡ digits = omega (arith, p.room, at, room) in
    record {
      within = omega (arith, less);
      room = omega (arith, p.room, at, room);
      inside = omega (arith, p.inside, at, size, length-set new (digits - 1) 32);
      put = drop-set new (digits - 1) 32 (omega (arith, p.room, p.inside, at, room, size)) ∙ ap (λ n. 32 ∷ drop n new) some
          ∙ ap (λ l. 32 ∷ l) (written ∙ ap (λ l. decimal number ++ l) p.put) ∙ ap spaced_numbers (sym (drop_more numbers left 0 less));
    }

-- some numbers more of a line
pub line_goes_on : (prefix numbers text new : List ℕ) (start count : ℕ) → start + count ≤ length numbers → text ≡ prefix ++ spaced_numbers (take start numbers)
    → new ≡ text ++ spaced_numbers (take (start + count - start) (drop start numbers)) → new ≡ prefix ++ spaced_numbers (take (start + count) numbers)
line_goes_on prefix numbers text new start count h is added =
    let more = take count (drop start numbers) in
    let long : start + count - start ≡ count = omega arith in
    added ∙ ap (λ n. text ++ spaced_numbers (take n (drop start numbers))) long ∙ ap (λ l. l ++ spaced_numbers more) is
    ∙ append_assoc prefix (spaced_numbers (take start numbers)) (spaced_numbers more)
    ∙ ap (λ l. prefix ++ l) (sym (spaced_numbers-append (take start numbers) more) ∙ ap spaced_numbers (sym (take-add start count numbers)))

-- the tag and the spellings, joined by spaces
pub join-tagged : (tag numbers : List ℕ) → join_with_byte 32 (tag ∷ map decimal numbers) ≡ tag ++ spaced_numbers numbers
join-tagged tag [] = sym (append-nil tag)
join-tagged tag (n ∷ numbers) = ap (λ l. tag ++ 32 ∷ l) (join-tagged (decimal n) numbers)

-- so many numbers fit into so many bytes
pub put_fits : (numbers bytes : List ℕ) → 21 * length numbers ≤ length bytes → ((k : ℕ) → get_or numbers k 0 < 2 ^ 64) → length (spaced_numbers numbers) ≤ length bytes
put_fits numbers bytes room fits =
    let fit : All Fits64 numbers = All-from_get_or Fits64 numbers 0 (λ k _. fits k) in
    omega (arith, room, words_few 20 numbers (omega arith) (All-weaker Fits64 (λ n. n < 10 ^ 20) (λ n h. omega (arith, h)) numbers fit) fit)

-- the whole line is put
pub line_is_put : (tag numbers old text new : List ℕ) (start : ℕ) → length numbers ≤ start → text ≡ (old ++ tag) ++ spaced_numbers (take start numbers) → new ≡ text ++ newline ∷ []
    → new ≡ old ++ (list_line tag numbers ++ newline ∷ [])
line_is_put tag numbers old text new start all is ended =
    ended
    ∙ ap (λ l. l ++ newline ∷ []) (is ∙ ap (λ l. (old ++ tag) ++ spaced_numbers l) (take_all start numbers all) ∙ append_assoc old tag (spaced_numbers numbers) ∙ ap (λ l. old ++ l) (sym (join-tagged tag numbers)))
    ∙ append_assoc old (list_line tag numbers) (newline ∷ [])

-- a line spells the numbers of which it is the tag and the words
pub spells_words : (tag line rest values : List ℕ) → line ≡ tag ++ rest → AreWords values → rest ≡ spaced_numbers values → SpellsList tag line values
spells_words tag line rest values is fit words =
    (has_one_line tag line values).1 (fit, is ∙ ap (λ l. tag ++ l) words ∙ sym (join-tagged tag values))

pub words_spelled : (tag line values : List ℕ) → SpellsList tag line values → AreWords values × (line ≡ tag ++ spaced_numbers values)
words_spelled tag line values s =
    let one = (has_one_line tag line values).0 s in (one.0, one.1 ∙ join-tagged tag values)

-- where no words of numbers come after the tag, the line spells none
pub rest_is_none : (tag line rest values : List ℕ) → line ≡ tag ++ rest → SpellsList tag line values → (AreWords values → rest ≢ spaced_numbers values) → ⊥
rest_is_none tag line rest values is s none =
    let spelled = words_spelled tag line values s in
    none spelled.0 (append_cancel_left tag rest (spaced_numbers values) (sym is ∙ spelled.1))
