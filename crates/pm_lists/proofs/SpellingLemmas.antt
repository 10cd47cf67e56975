-- The lines of lists: what a line spells, and the one line of a list.
use Rattle.std.proofs.Common.{◌≡◌, ◌≢◌, ℕ, true, ◌<◌, ◌^◌, List, [], ◌∷◌, refl, sym, ap, ◌∙◌, subst, arith}
use Rattle.std.specs.Prelude.{map, decimal, All}
use Rattle.std.specs.List.{AllZip, join_with_byte, list_all, slice_split}
use Rattle.std.proofs.lemmas.Bool.{and_parts, false≢true}
use Rattle.std.proofs.lemmas.Bool.Decides.{nat_tests}
use Rattle.std.proofs.lemmas.List.Elements.{All-nil, All-head, All-tail, All-cons}
use Rattle.pm_text.specs.Broken.{newline, HasNoNewline}
use Rattle.pm_text.specs.Numeral.{IsNumber}
use Rattle.pm_text.specs.Spaced.{is_space, words, HasNoSpace}
use Rattle.pm_text.proofs.NumeralLemmas.{number_is_unique, decimal_is_number, number_is_decimal}
use Rattle.pm_text.proofs.WordLemmas.{HasNoSpace-nil, HasNoSpace-cons, split-join, number_has_no_space, number_has_no_newline}
use Rattle.pm_text.proofs.LineLemmas.{HasNoNewline-nil, HasNoNewline-cons, HasNoNewline-append}
use Rattle.pm_lists.specs.ListLine.{space, is_tag_byte, is_tag, AreWords, SpellsList, list_line, ListHasOneLine, LineSpellsOneList}

-- what a tag is, by its bytes
pub record IsTag (tag : List ℕ) : Type 0 where
  pub some : tag ≢ []
  pub no_space : HasNoSpace tag
  pub no_newline : HasNoNewline tag

tag_byte_is_no_space : (byte : ℕ) → is_tag_byte byte ≡ true → byte ≢ 32
tag_byte_is_no_space byte h = grind (arith, nat_tests)

tag_byte_is_no_newline : (byte : ℕ) → is_tag_byte byte ≡ true → byte ≢ newline
tag_byte_is_no_newline byte h = grind (arith, nat_tests)

no_space_in_tag : (bytes : List ℕ) → list_all is_tag_byte bytes ≡ true → HasNoSpace bytes
no_space_in_tag [] h = HasNoSpace-nil
no_space_in_tag (byte ∷ bytes) h =
    let parts = and_parts (is_tag_byte byte) (list_all is_tag_byte bytes) h in
    HasNoSpace-cons byte bytes (tag_byte_is_no_space byte parts.0) (no_space_in_tag bytes parts.1)

no_newline_in_tag : (bytes : List ℕ) → list_all is_tag_byte bytes ≡ true → HasNoNewline bytes
no_newline_in_tag [] h = HasNoNewline-nil
no_newline_in_tag (byte ∷ bytes) h =
    let parts = and_parts (is_tag_byte byte) (list_all is_tag_byte bytes) h in
    HasNoNewline-cons byte bytes (tag_byte_is_no_newline byte parts.0) (no_newline_in_tag bytes parts.1)

cons_is_some : (byte : ℕ) (bytes : List ℕ) → byte ∷ bytes ≢ []
cons_is_some byte bytes e = absurd (grind arith)

pub tag_parts : (tag : List ℕ) → is_tag tag ≡ true → IsTag tag
tag_parts [] h = absurd (false≢true h)
tag_parts (byte ∷ bytes) h = record {
  some = cons_is_some byte bytes;
  no_space = no_space_in_tag (byte ∷ bytes) h;
  no_newline = no_newline_in_tag (byte ∷ bytes) h;
}

-- words that spell the numbers are the decimal digits of the numbers
spelled_is : (spelled : List (List ℕ)) (values : List ℕ) → AllZip IsNumber spelled values → spelled ≡ map decimal values
spelled_is [] [] all = refl
spelled_is [] (value ∷ values) all = absurd all
spelled_is (word ∷ spelled) [] all = absurd all
spelled_is (word ∷ spelled) (value ∷ values) all =
    ap (λ (w : List ℕ). w ∷ spelled) (sym (number_is_decimal word value all.0))
    ∙ ap (λ (ws : List (List ℕ)). decimal value ∷ ws) (spelled_is spelled values all.1)

numbers_fit : (spelled : List (List ℕ)) (values : List ℕ) → AllZip IsNumber spelled values → All (λ value. value < 2 ^ 64) values
numbers_fit [] [] all = All-nil (λ value. value < 2 ^ 64)
numbers_fit [] (value ∷ values) all = absurd all
numbers_fit (word ∷ spelled) [] all = absurd all
numbers_fit (word ∷ spelled) (value ∷ values) all =
    All-cons (λ n. n < 2 ^ 64) value values (let number = all.0 in number.fits) (numbers_fit spelled values all.1)

spelled_of : (values : List ℕ) → All (λ value. value < 2 ^ 64) values → AllZip IsNumber (map decimal values) values
spelled_of [] fit = tt
spelled_of (value ∷ values) fit = (
  decimal_is_number value (All-head (λ n. n < 2 ^ 64) value values fit),
  spelled_of values (All-tail (λ n. n < 2 ^ 64) value values fit),
)

no_space_spelled : (spelled : List (List ℕ)) (values : List ℕ) → AllZip IsNumber spelled values → All HasNoSpace spelled
no_space_spelled [] [] all = All-nil HasNoSpace
no_space_spelled [] (value ∷ values) all = absurd all
no_space_spelled (word ∷ spelled) [] all = absurd all
no_space_spelled (word ∷ spelled) (value ∷ values) all =
    All-cons HasNoSpace word spelled (number_has_no_space word value all.0) (no_space_spelled spelled values all.1)

same_numbers : (spelled : List (List ℕ)) (one other : List ℕ) → AllZip IsNumber spelled one → AllZip IsNumber spelled other → one ≡ other
same_numbers [] [] [] a b = refl
same_numbers [] [] (y ∷ ys) a b = absurd b
same_numbers [] (x ∷ xs) ys a b = absurd a
same_numbers (word ∷ spelled) [] ys a b = absurd a
same_numbers (word ∷ spelled) (x ∷ xs) [] a b = absurd b
same_numbers (word ∷ spelled) (x ∷ xs) (y ∷ ys) a b =
    ap (λ n. n ∷ xs) (number_is_unique word x y a.0 b.0) ∙ ap (λ (ns : List ℕ). y ∷ ns) (same_numbers spelled xs ys a.1 b.1)

-- a list of numbers of 64 bits is spelled by its line
pub line_is_read_again : (tag values : List ℕ) → AreWords values → SpellsList tag (list_line tag values) values
line_is_read_again tag values fit = record {
  spelled = map decimal values;
  whole = refl;
  numbers = spelled_of values fit.each;
}

pub has_one_line : ListHasOneLine
has_one_line tag line values = (
  λ s. (record { each = numbers_fit s.spelled values s.numbers }, s.whole ∙ ap (λ (ws : List (List ℕ)). join_with_byte space (tag ∷ ws)) (spelled_is s.spelled values s.numbers)),
  λ h. subst (λ (text : List ℕ). SpellsList tag text values) (sym h.1) (line_is_read_again tag values h.0),
)

words-join : (tag : List ℕ) (more : List (List ℕ)) → tag ≢ [] → words (join_with_byte 32 (tag ∷ more)) ≡ slice_split is_space (join_with_byte 32 (tag ∷ more))
words-join [] more some = absurd (some refl)
words-join (byte ∷ bytes) [] some = refl
words-join (byte ∷ bytes) (word ∷ more) some = refl

-- the words of a line that spells a list are the tag and the words of the numbers
words_of_line : (tag line values : List ℕ) → IsTag tag → (s : SpellsList tag line values) → words line ≡ tag ∷ s.spelled
words_of_line tag line values is s =
    ap words s.whole
    ∙ words-join tag s.spelled is.some
    ∙ split-join tag s.spelled (All-cons HasNoSpace tag s.spelled is.no_space (no_space_spelled s.spelled values s.numbers))

tail_or : List (List ℕ) → List (List ℕ)
tail_or [] = []
tail_or (word ∷ more) = more

rest_same : (one other : List ℕ) (ones others : List (List ℕ)) → one ∷ ones ≡ other ∷ others → ones ≡ others
unfolding tail_or
rest_same one other ones others e = ap tail_or e

pub spells_one_list : LineSpellsOneList
spells_one_list tag line one other tagged a b =
    let is = tag_parts tag tagged in
    let e : a.spelled ≡ b.spelled = rest_same tag tag a.spelled b.spelled (sym (words_of_line tag line one is a) ∙ words_of_line tag line other is b) in
    same_numbers b.spelled one other (subst (λ (ws : List (List ℕ)). AllZip IsNumber ws one) e a.numbers) b.numbers

no_newline_joined : (first values : List ℕ) → HasNoNewline first → All (λ value. value < 2 ^ 64) values → HasNoNewline (list_line first values)
no_newline_joined first [] is fit = is
no_newline_joined first (value ∷ values) is fit =
    HasNoNewline-append first (32 ∷ list_line (decimal value) values) is
    (HasNoNewline-cons 32 (list_line (decimal value) values) (λ e. absurd (omega arith))
    (no_newline_joined (decimal value) values
    (number_has_no_newline (decimal value) value (decimal_is_number value (All-head (λ n. n < 2 ^ 64) value values fit)))
    (All-tail (λ n. n < 2 ^ 64) value values fit)))

-- the line of a list has no newline
pub line_has_no_newline : (tag values : List ℕ) → IsTag tag → AreWords values → HasNoNewline (list_line tag values)
line_has_no_newline tag values is fit = no_newline_joined tag values is.no_newline fit.each

-- a line that spells a list has no newline
pub spelling_line_has_no_newline : (tag line values : List ℕ) → is_tag tag ≡ true → SpellsList tag line values → HasNoNewline line
spelling_line_has_no_newline tag line values tagged s =
    let one = (has_one_line tag line values).0 s in
    subst HasNoNewline (sym one.1) (line_has_no_newline tag values (tag_parts tag tagged) one.0)
