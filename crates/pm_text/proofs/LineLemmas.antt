-- How a file falls into lines, piece by piece from the prefix.
use Rattle.std.proofs.Common.{◌≡◌, ◌≢◌, ℕ, zero, suc, ◌+◌, ◌≤◌, false, eqb, List, [], ◌∷◌, ◌++◌, length, take, drop, refl, sym, ap, ◌∙◌, subst, ◌⊎◌, inl, inr, append_assoc, length-append, arith}
use Rattle.std.specs.List.{onto_first, concat}
use Rattle.std.proofs.lemmas.Bool.{ne_eqb, eqb-true, cases_Bool, eqb-false}
use Rattle.std.proofs.lemmas.List.{append-nil, take-append-le, take-append-drop}
use Rattle.std.proofs.Math.Seq.{take-append_seam, take-append-add}
use Rattle.std.proofs.lemmas.List.Folds.{concat-append}
use Rattle.std.proofs.lemmas.List.Elements.{All-nil, All-head, All-tail, All-cons, All-append}
use Rattle.pm_text.specs.Broken.{newline, HasNoNewline, lines, lines_and_end, first_lines}

pub HasNoNewline-nil : HasNoNewline []
HasNoNewline-nil = record { each = All-nil (λ b. b ≢ newline) }

pub HasNoNewline-cons : (byte : ℕ) (text : List ℕ) → byte ≢ newline → HasNoNewline text → HasNoNewline (byte ∷ text)
HasNoNewline-cons byte text ne h = record { each = All-cons (λ b. b ≢ newline) byte text ne h.each }

pub HasNoNewline-head : (byte : ℕ) (text : List ℕ) → HasNoNewline (byte ∷ text) → byte ≢ newline
HasNoNewline-head byte text h = All-head (λ b. b ≢ newline) byte text h.each

pub HasNoNewline-tail : (byte : ℕ) (text : List ℕ) → HasNoNewline (byte ∷ text) → HasNoNewline text
HasNoNewline-tail byte text h = record { each = All-tail (λ b. b ≢ newline) byte text h.each }

pub HasNoNewline-append : (prefix back : List ℕ) → HasNoNewline prefix → HasNoNewline back → HasNoNewline (prefix ++ back)
HasNoNewline-append prefix back f b = record { each = All-append (λ b. b ≢ newline) prefix back f.each b.each }

-- a line that ends is the first piece, and the rest falls into lines by itself
pub lines-append_line : (text rest : List ℕ) → HasNoNewline text → lines (text ++ newline ∷ rest) ≡ (text ++ newline ∷ []) ∷ lines rest
lines-append_line [] rest h = refl
lines-append_line (byte ∷ text) rest h =
    let differs : eqb byte 10 ≡ false = ne_eqb byte 10 (HasNoNewline-head byte text h) in
    rw (differs, lines-append_line text rest (HasNoNewline-tail byte text h)) refl

pub lines_and_end-append_line : (text rest : List ℕ) → HasNoNewline text → lines_and_end (text ++ newline ∷ rest) ≡ (text ++ newline ∷ []) ∷ lines_and_end rest
lines_and_end-append_line text rest h = ap (λ ls. ls ++ [] ∷ []) (lines-append_line text rest h)

-- bytes with no newline are one unfinished line
pub lines-unfinished : (byte : ℕ) (text : List ℕ) → HasNoNewline (byte ∷ text) → lines (byte ∷ text) ≡ (byte ∷ text) ∷ []
lines-unfinished byte [] h =
    let differs : eqb byte 10 ≡ false = ne_eqb byte 10 (HasNoNewline-head byte [] h) in rw differs refl
lines-unfinished byte (next ∷ text) h =
    let differs : eqb byte 10 ≡ false = ne_eqb byte 10 (HasNoNewline-head byte (next ∷ text) h) in
    rw (differs, lines-unfinished next text (HasNoNewline-tail byte (next ∷ text) h)) refl

concat-onto_first : (byte : ℕ) (pieces : List (List ℕ)) → concat (onto_first byte pieces) ≡ byte ∷ concat pieces
concat-onto_first byte [] = refl
concat-onto_first byte (piece ∷ pieces) = refl

-- the lines joined are the file
pub concat-lines : (bytes : List ℕ) → concat (lines bytes) ≡ bytes
concat-lines [] = refl
concat-lines (byte ∷ bytes) =
    elim (cases_Bool (eqb byte 10)) [
      | inl e ↦ rw (e, concat-lines bytes) refl
      | inr e ↦ rw (e, concat-onto_first, concat-lines bytes) refl
    ]

pub concat-lines_and_end : (bytes : List ℕ) → concat (lines_and_end bytes) ≡ bytes
concat-lines_and_end bytes = rw (concat-append, concat-lines bytes, append-nil) refl

-- `bytes` is exactly `count` whole lines, each with its newline: whatever follows, they are the first pieces
pub record IsWholeLines (count : ℕ) (bytes : List ℕ) : Type 0 where
  pub pieces : List (List ℕ)
  pub length_pieces : length pieces ≡ count
  pub in_prefix : (rest : List ℕ) → lines (bytes ++ rest) ≡ pieces ++ lines rest

pub no_whole_lines : IsWholeLines 0 []
no_whole_lines = record { pieces = []; length_pieces = refl; in_prefix = λ rest. refl }

pub one_more_whole_line : (count : ℕ) (bytes text : List ℕ) → IsWholeLines count bytes → HasNoNewline text → IsWholeLines (count + 1) (bytes ++ (text ++ newline ∷ []))
one_more_whole_line count bytes text whole h = record {
  pieces = whole.pieces ++ (text ++ newline ∷ []) ∷ [];
  length_pieces = rw (length-append, whole.length_pieces) refl;
  in_prefix = λ rest.
      rw (append_assoc bytes (text ++ newline ∷ []) rest, append_assoc text (newline ∷ []) rest, whole.in_prefix (text ++ newline ∷ rest), lines-append_line text rest h, append_assoc whole.pieces ((text ++ newline ∷ []) ∷ []) (lines rest)) refl;
}

pub one_whole_line : (text : List ℕ) → HasNoNewline text → IsWholeLines 1 (text ++ newline ∷ [])
one_whole_line text h = one_more_whole_line 0 [] text no_whole_lines h

-- the pieces of a file that begins with whole lines
pub lines_and_end-whole : (count : ℕ) (bytes rest : List ℕ) → (whole : IsWholeLines count bytes) → lines_and_end (bytes ++ rest) ≡ whole.pieces ++ lines_and_end rest
lines_and_end-whole count bytes rest whole = rw (whole.in_prefix rest, append_assoc whole.pieces (lines rest) ([] ∷ [])) refl

-- two files that begin with the same whole lines have the same first lines, up to these
pub first_lines-whole : (count : ℕ) (bytes one other : List ℕ) (fewer : ℕ) → IsWholeLines count bytes → fewer ≤ count → first_lines fewer (bytes ++ one) ≡ first_lines fewer (bytes ++ other)
first_lines-whole count bytes one other fewer whole le =
    let short : fewer ≤ length whole.pieces = omega arith in
    rw (lines_and_end-whole count bytes one whole, lines_and_end-whole count bytes other whole, take-append-le fewer whole.pieces (lines_and_end one) short, take-append-le fewer whole.pieces (lines_and_end other) short) refl

-- past whole lines the first lines are those of the rest
pub first_lines-past : (count more : ℕ) (bytes rest : List ℕ) → (whole : IsWholeLines count bytes) → first_lines (count + more) (bytes ++ rest) ≡ whole.pieces ++ first_lines more rest
first_lines-past count more bytes rest whole =
    rw (lines_and_end-whole count bytes rest whole, ← whole.length_pieces, take-append-add) refl

pub concat-pieces : (count : ℕ) (bytes : List ℕ) → (whole : IsWholeLines count bytes) → concat whole.pieces ≡ bytes
concat-pieces count bytes whole =
    let prefix = ap lines (sym (append-nil bytes)) ∙ whole.in_prefix [] ∙ append-nil whole.pieces in
    sym (ap concat prefix) ∙ concat-lines bytes

take-take : (n m : ℕ) (l : List (List ℕ)) → n ≤ m → take n (take m l) ≡ take n l
take-take zero m l le = refl
take-take (suc n) zero l le = absurd (omega arith)
take-take (suc n) (suc m) [] le = refl
take-take (suc n) (suc m) (x ∷ l) le = ap (λ t. x ∷ t) (take-take n m l (omega arith))

-- files with the same first lines have the same of fewer of them
pub first_lines-fewer : (fewer more : ℕ) (one other : List ℕ) → fewer ≤ more → first_lines more one ≡ first_lines more other → first_lines fewer one ≡ first_lines fewer other
first_lines-fewer fewer more one other le same =
    sym (take-take fewer more (lines_and_end one) le) ∙ ap (λ ls. take fewer ls) same ∙ take-take fewer more (lines_and_end other) le

-- the rest of a file that has begun with `bytes`
pub record GoesOn (bytes file : List ℕ) : Type 0 where
  pub tail : List ℕ
  pub whole : file ≡ bytes ++ tail

-- a file with the same first lines as one that begins with whole lines begins with these too
pub begins_with_whole_lines : (count : ℕ) (bytes rest file : List ℕ) → IsWholeLines count bytes → first_lines count file ≡ first_lines count (bytes ++ rest) → GoesOn bytes file
begins_with_whole_lines count bytes rest file whole same =
    let all = lines_and_end file in
    let prefix : take count all ≡ whole.pieces =
    same ∙ (rw (lines_and_end-whole count bytes rest whole, ← whole.length_pieces, take-append_seam) refl) in
    let joined : file ≡ concat (take count all ++ drop count all) =
    rw (take-append-drop) (sym (concat-lines_and_end file)) in
    record {
      tail = concat (drop count all);
      whole = joined ∙ concat-append (take count all) (drop count all) ∙ ap (λ ls. concat ls ++ concat (drop count all)) prefix ∙ ap (λ bs. bs ++ concat (drop count all)) (concat-pieces count bytes whole);
    }

-- of bytes with no newline, the first piece is the bytes, also where there are none
pub first_lines-unfinished : (text : List ℕ) → HasNoNewline text → first_lines 1 text ≡ text ∷ []
first_lines-unfinished [] h = refl
first_lines-unfinished (byte ∷ text) h = rw (lines-unfinished byte text h) refl

pub first_lines-line : (text rest : List ℕ) → HasNoNewline text → first_lines 1 (text ++ newline ∷ rest) ≡ (text ++ newline ∷ []) ∷ []
first_lines-line text rest h = rw (lines_and_end-append_line text rest h) refl

-- a newline stands in bytes that end with one
pub ends_with_newline : (text : List ℕ) → HasNoNewline (text ++ newline ∷ []) → ⊥
ends_with_newline [] h = HasNoNewline-head newline [] h refl
ends_with_newline (byte ∷ text) h = ends_with_newline text (HasNoNewline-tail byte (text ++ newline ∷ []) h)

-- bytes cut after their first newline
pub record CutsAtNewline (bytes : List ℕ) : Type 0 where
  pub text : List ℕ
  pub rest : List ℕ
  pub no_newline : HasNoNewline text
  pub whole : bytes ≡ text ++ newline ∷ rest

pub cut_at_newline : (bytes : List ℕ) → HasNoNewline bytes ⊎ CutsAtNewline bytes
cut_at_newline [] = inl HasNoNewline-nil
cut_at_newline (byte ∷ bytes) =
    elim (cases_Bool (eqb byte 10)) [
      | inl e ↦ inr (record { text = []; rest = bytes; no_newline = HasNoNewline-nil; whole = ap (λ b. b ∷ bytes) (eqb-true byte 10 e) })
      | inr e ↦
          elim (cut_at_newline bytes) [
            | inl none ↦ inl (HasNoNewline-cons byte bytes (eqb-false byte 10 e) none)
            | inr cut ↦ inr (record { text = byte ∷ cut.text; rest = cut.rest; no_newline = HasNoNewline-cons byte cut.text (eqb-false byte 10 e) cut.no_newline; whole = ap (λ bs. byte ∷ bs) cut.whole })
          ]
    ]

-- a file whose first piece is a given line begins with that line
pub begins_with_line : (text rest file : List ℕ) → HasNoNewline text → first_lines 1 file ≡ first_lines 1 (text ++ newline ∷ rest) → GoesOn (text ++ newline ∷ []) file
begins_with_line text rest file h same =
    begins_with_whole_lines 1 (text ++ newline ∷ []) rest file (one_whole_line text h) (same ∙ ap (first_lines 1) (sym (append_assoc text (newline ∷ []) rest)))

-- a file whose first piece has no newline is that piece: the last of the file, unfinished, or its end
pub is_unfinished : (text file : List ℕ) → HasNoNewline text → first_lines 1 file ≡ first_lines 1 text → file ≡ text
is_unfinished text file h same =
    elim (cut_at_newline file) [
      | inl none ↦
          let there = first_lines-unfinished file none in
          let here = first_lines-unfinished text h in
          cc
      | inr cut ↦
          let there = ap (first_lines 1) cut.whole ∙ first_lines-line cut.text cut.rest cut.no_newline in
          let here = first_lines-unfinished text h in
          let e : text ≡ cut.text ++ newline ∷ [] = cc in
          absurd (ends_with_newline cut.text (subst HasNoNewline e h))
    ]
