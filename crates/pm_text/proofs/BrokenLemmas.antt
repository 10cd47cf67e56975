-- The laws of broken lines, for a form of any kind, and for the forms of one line.
use Rattle.std.proofs.Common.{◌≡◌, ◌≢◌, ℕ, zero, suc, ◌+◌, ◌<◌, List, [], ◌∷◌, ◌++◌, refl, sym, ap, ◌∙◌, subst, ◌⊎◌, inl, inr, append_assoc, arith}
use Rattle.std.specs.List.{concat}
use Rattle.std.proofs.lemmas.Bool.{cases_order}
use Rattle.std.proofs.lemmas.List.{append-nil, append_cancel_left}
use Rattle.pm_text.specs.Broken.{newline, HasNoNewline, lines, first_lines, GoesOnValid, IsBrokenLine, IsOneLine, IsOneLineForm}
use Rattle.pm_text.proofs.LineLemmas.{HasNoNewline-nil, IsWholeLines, one_whole_line, first_lines-whole, first_lines-past, first_lines-fewer, begins_with_whole_lines, first_lines-line, ends_with_newline, cut_at_newline, is_unfinished, concat-lines, lines-append_line}

-- a valid file has no broken line
pub valid_has_no_broken_line : (valid : List ℕ → Type 0) (file : List ℕ) (line : ℕ) → valid file → IsBrokenLine valid file line → ⊥
valid_has_no_broken_line valid file line is_valid b = b.broken file is_valid refl

not_before : (valid : List ℕ → Type 0) (bytes : List ℕ) (one other : ℕ) → IsBrokenLine valid bytes one → IsBrokenLine valid bytes other → one < other → ⊥
not_before valid bytes one other b c before =
    let goes_on = c.least one before in b.broken goes_on.file goes_on.is_valid goes_on.same

-- a file has at most one broken line
pub broken_line_is_unique : (valid : List ℕ → Type 0) (bytes : List ℕ) (one other : ℕ) → IsBrokenLine valid bytes one → IsBrokenLine valid bytes other → one ≡ other
broken_line_is_unique valid bytes one other b c =
    elim (cases_order one other) [
      | inl e ↦ e
      | inr apart ↦
          elim apart [
            | inl before ↦ absurd (not_before valid bytes one other b c before)
            | inr after ↦ absurd (not_before valid bytes other one c b after)
          ]
    ]

-- where some file is valid, lines are counted from 1
pub broken_line_is_positive : (valid : List ℕ → Type 0) (file bytes : List ℕ) (line : ℕ) → valid file → IsBrokenLine valid bytes line → 0 < line
broken_line_is_positive valid file bytes zero is_valid b = absurd (b.broken file is_valid refl)
broken_line_is_positive valid file bytes (suc line) is_valid b = omega arith

-- forms with the same valid files have the same broken lines
pub broken_line_of_same_form : (valid also : List ℕ → Type 0) (bytes : List ℕ) (line : ℕ) → ((file : List ℕ) → valid file → also file) → ((file : List ℕ) → also file → valid file) → IsBrokenLine valid bytes line → IsBrokenLine also bytes line
broken_line_of_same_form valid also bytes line to from b = record {
  broken = λ file is_valid. b.broken file (from file is_valid);
  least = λ fewer less.
      let goes_on = b.least fewer less in
      record { file = goes_on.file; is_valid = to goes_on.file goes_on.is_valid; same = goes_on.same };
}

-- the reader's lemma: some valid file begins with the whole lines that were read, and none has the
-- line that comes next
pub broken_after_whole_lines : (valid : List ℕ → Type 0) (count : ℕ) (bytes read rest tail : List ℕ) → bytes ≡ read ++ rest → IsWholeLines count read → valid (read ++ tail) → ((file : List ℕ) → valid file → first_lines (count + 1) file ≢ first_lines (count + 1) bytes) → IsBrokenLine valid bytes (count + 1)
broken_after_whole_lines valid count bytes read rest tail is whole is_valid none = record {
  broken = none;
  least = λ fewer less. record {
    file = read ++ tail;
    is_valid = is_valid;
    same = first_lines-whole count read tail rest fewer whole (omega arith) ∙ ap (first_lines fewer) (sym is);
  };
}

-- the same, where the files that go on from the lines that were read are told by what follows these
pub next_line_is_broken : (valid : List ℕ → Type 0) (count : ℕ) (bytes read rest tail : List ℕ) → bytes ≡ read ++ rest → IsWholeLines count read → valid (read ++ tail) → ((other : List ℕ) → valid (read ++ other) → first_lines 1 other ≢ first_lines 1 rest) → IsBrokenLine valid bytes (count + 1)
next_line_is_broken valid count bytes read rest tail is whole is_valid none =
    broken_after_whole_lines valid count bytes read rest tail is whole is_valid
    (λ file file_valid same.
    let same_here : first_lines (count + 1) file ≡ first_lines (count + 1) (read ++ rest) = same ∙ ap (first_lines (count + 1)) is in
    let goes_on = begins_with_whole_lines count read rest file whole (first_lines-fewer count (count + 1) file (read ++ rest) (omega arith) same_here) in
    let there = first_lines-past count 1 read goes_on.tail whole in
    let here = first_lines-past count 1 read rest whole in
    let next : whole.pieces ++ first_lines 1 goes_on.tail ≡ whole.pieces ++ first_lines 1 rest =
    sym there ∙ ap (first_lines (count + 1)) (sym goes_on.whole) ∙ same_here ∙ here in
    none goes_on.tail (subst valid goes_on.whole file_valid) (append_cancel_left whole.pieces (first_lines 1 goes_on.tail) (first_lines 1 rest) next))

goes_on_at_none : (valid : List ℕ → Type 0) (file bytes : List ℕ) → valid file → (fewer : ℕ) → fewer < 1 → GoesOnValid valid bytes fewer
goes_on_at_none valid file bytes is_valid zero less = record { file = file; is_valid = is_valid; same = refl }
goes_on_at_none valid file bytes is_valid (suc fewer) less = absurd (omega arith)

-- of a form of one line: the first line breaks it, where it is no valid file
pub first_line_is_broken : (valid : List ℕ → Type 0) (file text rest : List ℕ) → IsOneLineForm valid → valid file → HasNoNewline text → (valid (text ++ newline ∷ []) → ⊥) → IsBrokenLine valid (text ++ newline ∷ rest) 1
first_line_is_broken valid file text rest form is_valid h not_valid = record {
  broken = λ other other_valid same.
      let one = form.one_line other other_valid in
      let there = ap (first_lines 1) one.whole ∙ first_lines-line one.text [] one.no_newline in
      let here = first_lines-line text rest h in
      let e : other ≡ text ++ newline ∷ [] = (let pieces : one.text ++ newline ∷ [] ≡ text ++ newline ∷ [] = cc in one.whole ∙ pieces) in
      not_valid (subst valid e other_valid);
  least = goes_on_at_none valid file (text ++ newline ∷ rest) is_valid;
}

-- where it is unfinished, or missing
pub unfinished_line_is_broken : (valid : List ℕ → Type 0) (file text : List ℕ) → IsOneLineForm valid → valid file → HasNoNewline text → IsBrokenLine valid text 1
unfinished_line_is_broken valid file text form is_valid h = record {
  broken = λ other other_valid same.
      let one = form.one_line other other_valid in
      let there = is_unfinished text other h same in
      ends_with_newline one.text (subst HasNoNewline (sym there ∙ one.whole) h);
  least = goes_on_at_none valid file text is_valid;
}

whole_from_one_line : (bytes : List ℕ) → IsOneLine bytes → IsWholeLines 1 bytes
whole_from_one_line bytes one = subst (IsWholeLines 1) (sym one.whole) (one_whole_line one.text one.no_newline)

lines-one_line : (bytes : List ℕ) → IsOneLine bytes → lines bytes ≡ bytes ∷ []
lines-one_line bytes one = rw one.whole (lines-append_line one.text [] one.no_newline)

-- nothing follows one line in bytes that are one line
one_line_ends : (bytes tail : List ℕ) → IsOneLine bytes → IsOneLine (bytes ++ tail) → tail ≡ []
one_line_ends bytes tail one all =
    let there : lines (bytes ++ tail) ≡ (one.text ++ newline ∷ []) ∷ lines tail =
    ap (λ bs. lines (bs ++ tail)) one.whole ∙ ap lines (append_assoc one.text (newline ∷ []) tail) ∙ lines-append_line one.text tail one.no_newline in
    let here = lines-one_line (bytes ++ tail) all in
    let none : lines tail ≡ [] = cc in
    sym (concat-lines tail) ∙ ap concat none

-- of a form of one line: the second line breaks it, where bytes follow a valid file
pub second_line_is_broken : (valid : List ℕ → Type 0) (file rest : List ℕ) → IsOneLineForm valid → valid file → rest ≢ [] → IsBrokenLine valid (file ++ rest) 2
second_line_is_broken valid file rest form is_valid more =
    next_line_is_broken valid 1 (file ++ rest) file rest [] refl
    (whole_from_one_line file (form.one_line file is_valid))
    (subst valid (sym (append-nil file)) is_valid)
    (λ other other_valid same.
    let ends = one_line_ends file other (form.one_line file is_valid) (form.one_line (file ++ other) other_valid) in
    more (is_unfinished [] rest HasNoNewline-nil (sym same ∙ ap (first_lines 1) ends)))

after_valid_line : (valid : List ℕ → Type 0) (text rest bytes : List ℕ) → IsOneLineForm valid → valid (text ++ newline ∷ []) → bytes ≡ text ++ newline ∷ rest → valid bytes ⊎ (IsBrokenLine valid bytes 1 ⊎ IsBrokenLine valid bytes 2)
after_valid_line valid text [] bytes form is_valid is = inl (subst valid (sym is) is_valid)
after_valid_line valid text (byte ∷ rest) bytes form is_valid is =
    let joined : (text ++ newline ∷ []) ++ byte ∷ rest ≡ bytes = append_assoc text (newline ∷ []) (byte ∷ rest) ∙ sym is in
    inr (inr (subst (λ bs. IsBrokenLine valid bs 2) joined (second_line_is_broken valid (text ++ newline ∷ []) (byte ∷ rest) form is_valid (λ e. cc))))

-- what a reader of a form of one line answers: the file is valid, or its first line is broken, or its second
pub one_line_answer : (valid : List ℕ → Type 0) (file bytes : List ℕ) → IsOneLineForm valid → valid file → ((other : List ℕ) → valid other ⊎ (valid other → ⊥)) → valid bytes ⊎ (IsBrokenLine valid bytes 1 ⊎ IsBrokenLine valid bytes 2)
one_line_answer valid file bytes form is_valid test =
    elim (cut_at_newline bytes) [
      | inl none ↦ inr (inl (unfinished_line_is_broken valid file bytes form is_valid none))
      | inr cut ↦
          elim (test (cut.text ++ newline ∷ [])) [
            | inr not_valid ↦
                inr (inl (subst (λ bs. IsBrokenLine valid bs 1) (sym cut.whole) (first_line_is_broken valid file cut.text cut.rest form is_valid cut.no_newline not_valid)))
            | inl line_valid ↦ after_valid_line valid cut.text cut.rest bytes form line_valid cut.whole
          ]
    ]
