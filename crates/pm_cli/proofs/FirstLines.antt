-- Files of one line: what their first line tells.
use Rattle.std.proofs.Common.{◌≡◌, ◌≢◌, ℕ, ◌<◌, Bool, true, false, List, [], ◌∷◌, ◌++◌, length, refl, sym, ap, ◌∙◌, subst, append_assoc}
use Rattle.std.proofs.lemmas.List.{append_cancel_left, append_cancel_right}
use Rattle.pm_text.specs.Broken.{newline, HasNoNewline, IsOneLineForm, IsBrokenLine}
use Rattle.pm_text.specs.Reading.{Reading, IsNextLine, reading_of}
use Rattle.pm_text.proofs.BrokenLemmas.{first_line_is_broken, unfinished_line_is_broken, second_line_is_broken}
use Rattle.pm_text.proofs.LineLemmas.{HasNoNewline-append}
use Rattle.pm_text.proofs.ReadingLemmas.{unfinished_is_all}
use Rattle.pm_cli.specs.WordLine.{IsWordLine, IsWordFile}
use Rattle.pm_cli.specs.steps.FirstLine.{IsFirstLine, IsTagged, IsUntagged, no_line, no_tag}

-- a first line that isn't ended is the whole file
pub unended : (bytes text : List ℕ) (new : Reading) (after : ℕ) (ended : Bool) → ended ≡ false → IsNextLine (reading_of bytes) new text ended after → HasNoNewline bytes
unended bytes text new after ended e next =
    let line : IsNextLine (reading_of bytes) new text false after = subst (λ (b : Bool). IsNextLine (reading_of bytes) new text b after) e next in
    subst HasNoNewline (sym (unfinished_is_all after (reading_of bytes) new text line)) line.no_newline

-- one that is ended, and what follows
pub ended_line : (bytes text : List ℕ) (new : Reading) (after : ℕ) (ended alone : Bool) → ended ≡ true → IsNextLine (reading_of bytes) new text ended after
    → (alone ≡ true → new.rest ≡ []) → (alone ≡ false → new.rest ≢ []) → IsFirstLine bytes text alone
ended_line bytes text new after ended alone e next last more =
    let line : IsNextLine (reading_of bytes) new text true after = subst (λ (b : Bool). IsNextLine (reading_of bytes) new text b after) e next in
    record { no_newline = line.no_newline; rest = new.rest; whole = line.left; last = last; more = more }

-- a form of files of one line, and one such file
pub record IsLineForm (form : List ℕ → Type 0) : Type 0 where
  pub one : IsOneLineForm form
  pub file : List ℕ
  pub valid : form file

module _ (form : List ℕ → Type 0) (lines : IsLineForm form) (bytes : List ℕ) where
  pub no_first_line : HasNoNewline bytes → IsBrokenLine form bytes 1
  no_first_line h = unfinished_line_is_broken form lines.file bytes lines.one lines.valid h

  pub only_line : (text : List ℕ) (alone : Bool) → IsFirstLine bytes text alone → alone ≡ true → bytes ≡ text ++ newline ∷ []
  only_line text alone line last = line.whole ∙ ap (λ (rest : List ℕ). text ++ newline ∷ rest) (line.last last)

  pub second_line : (text : List ℕ) (alone : Bool) → IsFirstLine bytes text alone → alone ≡ false → form (text ++ newline ∷ []) → IsBrokenLine form bytes 2
  second_line text alone line more valid =
      subst (λ (file : List ℕ). IsBrokenLine form file 2) (append_assoc text (newline ∷ []) line.rest ∙ sym line.whole)
      (second_line_is_broken form (text ++ newline ∷ []) line.rest lines.one valid (line.more more))

  pub wrong_line : (text : List ℕ) (alone : Bool) → IsFirstLine bytes text alone → (form (text ++ newline ∷ []) → ⊥) → IsBrokenLine form bytes 1
  wrong_line text alone line none =
      subst (λ (file : List ℕ). IsBrokenLine form file 1) (sym line.whole) (first_line_is_broken form lines.file text line.rest lines.one lines.valid line.no_newline none)

-- a kind of words behind a tag: none of them has a newline, and one of them has a letter
pub record IsWordKind (tag : List ℕ) (is_word : List ℕ → Type 0) : Type 0 where
  pub tag_line : HasNoNewline tag
  pub lines : (word : List ℕ) → is_word word → HasNoNewline word
  pub word : List ℕ
  pub is : is_word word
  pub some : 0 < length word

-- a line has one word
pub one_word : (tag v w : List ℕ) → tag ++ v ++ newline ∷ [] ≡ tag ++ w ++ newline ∷ [] → v ≡ w
one_word tag v w e = append_cancel_left tag v w (append_cancel_right (tag ++ v) (tag ++ w) (newline ∷ []) e)

module _ (tag : List ℕ) (is_word : List ℕ → Type 0) (kind : IsWordKind tag is_word) where
  -- the line of a word
  pub line_of_word : (word : List ℕ) → is_word word → 0 < length word → IsWordLine tag is_word word ((tag ++ word) ++ newline ∷ [])
  line_of_word word is some = record { is = is; some = some; spelled = refl }

  pub word_form : IsLineForm (IsWordFile tag is_word)
  word_form = record {
    one = record {
      one_line = λ file valid. record {
        text = tag ++ valid.0;
        no_newline = HasNoNewline-append tag valid.0 kind.tag_line (kind.lines valid.0 valid.1.is);
        whole = valid.1.spelled;
      };
    };
    file = (tag ++ kind.word) ++ newline ∷ [];
    valid = (kind.word, line_of_word kind.word kind.is kind.some);
  }

  -- the word of a line whose text is the tag and a word
  same_word : (word : List ℕ) (valid : IsWordFile tag is_word ((tag ++ word) ++ newline ∷ [])) → word ≡ valid.0
  same_word word valid = one_word tag word valid.0 valid.1.spelled

  module _ (bytes : List ℕ) where
    pub no_word : IsUntagged tag bytes → IsBrokenLine (IsWordFile tag is_word) bytes 1
    no_word (no_line h) = no_first_line (IsWordFile tag is_word) word_form bytes h
    no_word (no_tag text alone line none) =
        wrong_line (IsWordFile tag is_word) word_form bytes text alone line
        (λ valid. none valid.0 valid.1.some (append_cancel_right text (tag ++ valid.0) (newline ∷ []) valid.1.spelled))

    module _ (word : List ℕ) (alone : Bool) (line : IsTagged tag bytes word alone) where
      pub only_word : alone ≡ true → is_word word → IsWordLine tag is_word word bytes
      only_word last is =
          subst (IsWordLine tag is_word word) (sym (only_line (IsWordFile tag is_word) word_form bytes (tag ++ word) alone line.line last)) (line_of_word word is line.some)

      pub followed_word : alone ≡ false → is_word word → IsBrokenLine (IsWordFile tag is_word) bytes 2
      followed_word more is = second_line (IsWordFile tag is_word) word_form bytes (tag ++ word) alone line.line more (word, line_of_word word is line.some)

      pub wrong_word : (is_word word → ⊥) → IsBrokenLine (IsWordFile tag is_word) bytes 1
      wrong_word none =
          wrong_line (IsWordFile tag is_word) word_form bytes (tag ++ word) alone line.line (λ valid. none (subst is_word (sym (same_word word valid)) valid.1.is))
