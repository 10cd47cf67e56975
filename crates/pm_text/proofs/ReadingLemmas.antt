-- One line after another is given, and what was given is whole lines as long as each line ended.
use Rattle.std.proofs.Common.{◌≡◌, ◌≢◌, ℕ, ◌+◌, ◌<◌, ◌≤◌, Bool, true, false, List, [], ◌∷◌, ◌++◌, length, take, drop, get_or, refl, sym, ap, ◌∙◌, subst, add-one, arith}
use Rattle.std.proofs.lemmas.Bool.{false≢true}
use Rattle.std.proofs.lemmas.List.{append-nil, take-append-drop, get_or-take, take_more, length-take-le, length-drop, drop-drop}
use Rattle.std.proofs.lemmas.List.Elements.{All-from_get_or}
use Rattle.std.proofs.Math.Seq.{drop-cons, take-add}
use Rattle.std.proofs.Math.ListN.{drop_of_length-le}
use Rattle.pm_text.specs.Broken.{newline, HasNoNewline, lines_and_end, first_lines}
use Rattle.pm_text.specs.Reading.{Reading, reading_at, ending, IsNextLine}
use Rattle.pm_text.proofs.LineLemmas.{IsWholeLines, one_more_whole_line, lines_and_end-append_line, first_lines-line, first_lines-unfinished}

-- no newline stands before a place
pub HasNoNewline-take : (bytes : List ℕ) (place : ℕ) → place ≤ length bytes → ((k : ℕ) → k < place → get_or bytes k 0 ≢ newline) → HasNoNewline (take place bytes)
HasNoNewline-take bytes place within none = record {
  each = All-from_get_or (λ byte. byte ≢ newline) (take place bytes) 0
      (λ k less.
      let below : k < place = omega (arith, length-take-le place bytes within) in
      rw (get_or-take place bytes k 0 below) (none k below));
}

pub cut_around : (bytes : List ℕ) (place : ℕ) → place < length bytes → bytes ≡ take place bytes ++ get_or bytes place 0 ∷ drop (place + 1) bytes
cut_around bytes place less =
    sym (take-append-drop place bytes) ∙ ap (λ back. take place bytes ++ back) (rw add-one (drop-cons bytes place 0 less))

regrouped : (given place : ℕ) → given + (place + 1) ≡ given + place + 1
regrouped given place = omega arith

-- the next line ends, at the first newline among the bytes that are left
pub ended_line : (bytes : List ℕ) (given place : ℕ) → given ≤ length bytes → place < length (drop given bytes) → ((k : ℕ) → k < place → get_or (drop given bytes) k 0 ≢ newline) → get_or (drop given bytes) place 0 ≡ newline → IsNextLine (reading_at bytes given) (reading_at bytes (given + place + 1)) (take place (drop given bytes)) true (given + place + 1)
ended_line bytes given place within less none found = record {
  no_newline = HasNoNewline-take (drop given bytes) place (omega arith) none;
  left =
      cut_around (drop given bytes) place less
      ∙ ap (λ byte. take place (drop given bytes) ++ byte ∷ drop (place + 1) (drop given bytes)) found
      ∙ ap (λ rest. take place (drop given bytes) ++ newline ∷ rest) (drop-drop (place + 1) given bytes ∙ ap (λ n. drop n bytes) (regrouped given place));
  now_given =
      ap (λ n. take n bytes) (sym (regrouped given place))
      ∙ take-add given (place + 1) bytes
      ∙ ap (λ piece. take given bytes ++ piece) (take_more (drop given bytes) place 0 less ∙ ap (λ byte. take place (drop given bytes) ++ byte ∷ []) found);
  place = omega (arith, length-take-le (given + place + 1) bytes (omega (arith, length-drop given bytes)));
  unfinished = λ e. absurd (false≢true (sym e));
}

-- the next line is the last, and unfinished: no newline stands among the bytes that are left
pub unfinished_line : (bytes : List ℕ) (given place : ℕ) → given ≤ length bytes → place ≡ length (drop given bytes) → length (drop given bytes) ≢ 0 → ((k : ℕ) → k < place → get_or (drop given bytes) k 0 ≢ newline) → IsNextLine (reading_at bytes given) (reading_at bytes (given + place)) (take place (drop given bytes)) false (given + place)
unfinished_line bytes given place within all some none = record {
  no_newline = HasNoNewline-take (drop given bytes) place (omega arith) none;
  left =
      sym (take-append-drop place (drop given bytes))
      ∙ ap (λ rest. take place (drop given bytes) ++ rest) (drop-drop place given bytes);
  now_given =
      take-add given place bytes
      ∙ ap (λ piece. take given bytes ++ piece) (sym (append-nil (take place (drop given bytes))));
  place = omega (arith, length-take-le (given + place) bytes (omega (arith, length-drop given bytes)));
  unfinished = λ _. (
    λ none_taken. some (omega (arith, ap length none_taken, length-take-le place (drop given bytes) (omega arith))),
    drop_of_length-le bytes (omega (arith, length-drop given bytes)),
  );
}

-- after whole lines a line that ended is one more whole line
pub whole_after_line : (count after : ℕ) (old new : Reading) (text : List ℕ) → IsWholeLines count old.given → IsNextLine old new text true after → IsWholeLines (count + 1) new.given
whole_after_line count after old new text whole next =
    subst (IsWholeLines (count + 1)) (sym next.now_given) (one_more_whole_line count old.given text whole next.no_newline)

-- a line that ended is the first piece of the bytes that were left
pub lines_and_end-next_line : (after : ℕ) (old new : Reading) (text : List ℕ) → IsNextLine old new text true after → lines_and_end old.rest ≡ (text ++ newline ∷ []) ∷ lines_and_end new.rest
lines_and_end-next_line after old new text next =
    ap lines_and_end next.left ∙ lines_and_end-append_line text new.rest next.no_newline

-- an unfinished line is all the bytes that were left
pub unfinished_is_all : (after : ℕ) (old new : Reading) (text : List ℕ) → IsNextLine old new text false after → old.rest ≡ text
unfinished_is_all after old new text next =
    let none_left = (next.unfinished refl).1 in
    next.left ∙ ap (λ rest. text ++ rest) none_left ∙ append-nil text

-- what the first piece of the bytes that were left is
pub first_lines-next_line : (after : ℕ) (old new : Reading) (text : List ℕ) (ended : Bool) → IsNextLine old new text ended after → first_lines 1 old.rest ≡ (text ++ ending ended) ∷ []
first_lines-next_line after old new text true next = ap (first_lines 1) next.left ∙ first_lines-line text new.rest next.no_newline
first_lines-next_line after old new text false next =
    ap (first_lines 1) (unfinished_is_all after old new text next) ∙ first_lines-unfinished text next.no_newline ∙ ap (λ t. t ∷ []) (sym (append-nil text))

-- so many bytes are given at once
pub reading_skipped : (bytes : List ℕ) (given count : ℕ) → reading_at bytes (given + count) ≡ record { given = take given bytes ++ take count (drop given bytes); rest = drop count (drop given bytes) }
reading_skipped bytes given count =
    let with_given : List ℕ → Reading = λ l. record { given = l; rest = drop (given + count) bytes } in
    let with_rest : List ℕ → Reading = λ l. record { given = take given bytes ++ take count (drop given bytes); rest = l } in
    ap with_given (take-add given count bytes) ∙ ap with_rest (sym (drop-drop count given bytes))
