-- What stands after a map text in a map file: nothing, or one residue line.
use Rattle.std.proofs.Common.{◌≡◌, ◌≢◌, ℕ, ◌+◌, ◌<◌, Bool, true, false, eqb, List, [], ◌∷◌, ◌++◌, length, drop, refl, sym, ap, ◌∙◌, subst, arith, append_assoc}
use Rattle.std.specs.Prelude.{All, Option, Some, None, codes}
use Rattle.std.proofs.lemmas.Bool.{eqb-true, eqb-false}
use Rattle.std.proofs.lemmas.List.{append-nil, length-map}
use Rattle.pm_text.specs.Broken.{newline, HasNoNewline, IsBrokenLine, first_lines}
use Rattle.pm_text.specs.Spaced.{HasNoSpace}
use Rattle.pm_text.specs.Reading.{Reading, reading_of, IsNextLine}
use Rattle.pm_text.proofs.LineLemmas.{HasNoNewline-nil, HasNoNewline-cons, HasNoNewline-append, no_whole_lines, one_whole_line, is_unfinished}
use Rattle.pm_text.proofs.WordLemmas.{HasNoSpace-nil, HasNoSpace-cons}
use Rattle.pm_text.proofs.BrokenLemmas.{next_line_is_broken}
use Rattle.pm_text.proofs.ReaderLemmas.{broken_at_line, broken_at_end}
use Rattle.pm_lists.specs.ListLine.{list_line}
use Rattle.pm_mapfile.proofs.NumberLines.{list_line_tagged}
use Rattle.pm_lists.specs.Numbers.{spaced_numbers}
use Rattle.pm_mapfile.specs.MapFile.{MapLines, lines_text, IsTextBefore, IsAfterMap, IsResidue}
use Rattle.pm_mapfile.specs.steps.Lines.{IsNumbersLine, IsReadMap}
use Rattle.pm_lists.proofs.NumberLemmas.{Fits64}
use Rattle.pm_mapfile.proofs.NumberLines.{spaced_no_newline}
use Rattle.pm_mapfile.proofs.TailLemmas.{cut_alike, has_newline}
use Rattle.pm_mapfile.proofs.FormLemmas.{broken_past_prefix, whole_map_text, after_alike}
use Rattle.pm_mapfile.proofs.FileLemmas.{cut_after}

pub tag_residue_no_space : HasNoSpace (codes "residue")
tag_residue_no_space =
    HasNoSpace-cons 114 (codes "esidue") (omega arith) (HasNoSpace-cons 101 (codes "sidue") (omega arith) (HasNoSpace-cons 115 (codes "idue") (omega arith)
    (HasNoSpace-cons 105 (codes "due") (omega arith) (HasNoSpace-cons 100 (codes "ue") (omega arith) (HasNoSpace-cons 117 (codes "e") (omega arith) (HasNoSpace-cons 101 [] (omega arith) HasNoSpace-nil))))))

pub tag_residue_some : codes "residue" ≢ []
tag_residue_some e = cc

tag_residue_no_newline : HasNoNewline (codes "residue")
tag_residue_no_newline =
    HasNoNewline-cons 114 (codes "esidue") (omega arith) (HasNoNewline-cons 101 (codes "sidue") (omega arith) (HasNoNewline-cons 115 (codes "idue") (omega arith)
    (HasNoNewline-cons 105 (codes "due") (omega arith) (HasNoNewline-cons 100 (codes "ue") (omega arith) (HasNoNewline-cons 117 (codes "e") (omega arith) (HasNoNewline-cons 101 [] (omega arith) HasNoNewline-nil))))))

residue_no_newline : (numbers : List ℕ) → All Fits64 numbers → HasNoNewline (codes "residue" ++ spaced_numbers numbers)
residue_no_newline numbers fit = HasNoNewline-append (codes "residue") (spaced_numbers numbers) tag_residue_no_newline (spaced_no_newline numbers fit)

-- nothing may stand after a map text
pub nothing_after : IsAfterMap []
nothing_after = (None, record { fit = tt; spelled = refl })

no_line : (a r : List ℕ) → a ++ newline ∷ r ≢ []
no_line [] r e = cc
no_line (x ∷ a) r e = cc

-- what stands there and begins with a line is that residue line, and nothing more
pub record IsWholeResidue (text more : List ℕ) : Type 0 where
  pub numbers : List ℕ
  pub line : IsNumbersLine (codes "residue") text numbers
  pub ends : more ≡ []

residue_line_of : (text more : List ℕ) (residue : Option (List ℕ)) → HasNoNewline text → IsResidue residue (text ++ newline ∷ more) → IsWholeResidue text more
residue_line_of text more None h is = absurd (no_line text more is.spelled)
residue_line_of text more (Some numbers) h is =
    let spelled : text ++ newline ∷ more ≡ (codes "residue" ++ spaced_numbers numbers) ++ newline ∷ [] = is.spelled ∙ ap (λ l. l ++ newline ∷ []) (list_line_tagged (codes "residue") numbers) in
    let alike = cut_alike text (codes "residue" ++ spaced_numbers numbers) more [] h (residue_no_newline numbers is.fit.each) spelled in
    record { numbers = numbers; line = record { fit = is.fit.each; spelled = alike.line }; ends = alike.rest }

pub residue_line : (text more : List ℕ) → HasNoNewline text → IsAfterMap (text ++ newline ∷ more) → IsWholeResidue text more
residue_line text more h is = residue_line_of text more is.0 h is.1

has_line : (bytes : List ℕ) (residue : Option (List ℕ)) → HasNoNewline bytes → bytes ≢ [] → IsResidue residue bytes → ⊥
has_line bytes None h some is = some is.spelled
has_line bytes (Some numbers) h some is = has_newline (list_line (codes "residue") numbers) [] (subst HasNoNewline is.spelled h)

-- an unfinished line
pub residue_unfinished : (bytes : List ℕ) → HasNoNewline bytes → bytes ≢ [] → IsBrokenLine IsAfterMap bytes 1
residue_unfinished bytes h some = broken_at_end IsAfterMap 0 bytes [] (reading_of bytes) refl no_whole_lines nothing_after h (λ is. has_line bytes is.0 h some is.1)

-- a line that is no residue line
pub residue_invalid : (after : ℕ) (bytes text : List ℕ) (new : Reading) → IsNextLine (reading_of bytes) new text true after → ((numbers : List ℕ) → IsNumbersLine (codes "residue") text numbers → ⊥) → IsBrokenLine IsAfterMap bytes 1
residue_invalid after bytes text new next none =
    broken_at_line IsAfterMap 0 after bytes [] text (reading_of bytes) new refl no_whole_lines nothing_after next
    (λ more is. let line = residue_line text more next.no_newline is in none line.numbers line.line)

residue_is : (text numbers : List ℕ) → IsNumbersLine (codes "residue") text numbers → IsResidue (Some numbers) (text ++ newline ∷ [])
residue_is text numbers line = record { fit = record { each = line.fit }; spelled = ap (λ l. l ++ newline ∷ []) (line.spelled ∙ sym (list_line_tagged (codes "residue") numbers)) }

-- a residue line, and bytes after it
pub residue_followed : (after : ℕ) (bytes text numbers : List ℕ) (new : Reading) → IsNextLine (reading_of bytes) new text true after → IsNumbersLine (codes "residue") text numbers → new.rest ≢ [] → IsBrokenLine IsAfterMap bytes 2
residue_followed after bytes text numbers new next line more =
    let prefix = text ++ newline ∷ [] in
    next_line_is_broken IsAfterMap 1 bytes prefix new.rest [] (next.left ∙ sym (append_assoc text (newline ∷ []) new.rest)) (one_whole_line text next.no_newline)
    (Some numbers, subst (IsResidue (Some numbers)) (sym (append-nil prefix)) (residue_is text numbers line))
    (λ other is same.
    let one = residue_line text other next.no_newline (subst IsAfterMap (append_assoc text (newline ∷ []) other) is) in
    more (is_unfinished [] new.rest HasNoNewline-nil (sym same ∙ ap (first_lines 1) one.ends)))

-- a residue line, and nothing after it
pub residue_whole : (after : ℕ) (bytes text numbers : List ℕ) (new : Reading) → IsNextLine (reading_of bytes) new text true after → IsNumbersLine (codes "residue") text numbers → new.rest ≡ [] → IsResidue (Some numbers) bytes
residue_whole after bytes text numbers new next line none =
    subst (IsResidue (Some numbers)) (sym (next.left ∙ ap (λ rest. text ++ newline ∷ rest) none)) (residue_is text numbers line)

-- what breaks what stands after the map text breaks the file, past the lines of the text
pub after_broken : (form : List ℕ → Type 0) (edges root after line other : ℕ) (bytes darts sizes : List ℕ) → IsReadMap bytes edges root darts sizes after → 0 < other → IsBrokenLine form (drop after bytes) other
    → line ≡ length sizes + 2 + other → IsBrokenLine (IsTextBefore form) bytes line
after_broken form edges root after line other bytes darts sizes r positive b count =
    let m : MapLines = record { edges = edges; root = root; vertices = r.vertices } in
    let past = broken_past_prefix (IsTextBefore form) form (length r.vertices + 2) other (lines_text m) (drop after bytes) (whole_map_text m r.are_lines)
    (λ rest f. subst form (sym (after_alike m f.lines rest f.rest r.are_lines f.are_lines f.spelled)) f.after)
    (λ rest is. record { lines = m; are_lines = r.are_lines; rest = rest; after = is; spelled = refl })
    positive b in
    let sum : length r.vertices + 2 + other ≡ line = omega (arith, count, ap length r.sizes_are, length-map r.vertices length) in
    subst (λ n. IsBrokenLine (IsTextBefore form) bytes n) sum (subst (λ b. IsBrokenLine (IsTextBefore form) b (length r.vertices + 2 + other)) (sym (cut_after edges root after bytes darts sizes r)) past)

-- what a test that there are no bytes tells
length_none : (bytes : List ℕ) → length bytes ≡ 0 → bytes ≡ []
length_none [] e = refl
length_none (x ∷ bytes) e = absurd (omega (arith, e))

pub told_empty : (bytes : List ℕ) (r : Bool) → r ≡ eqb (length bytes) 0 → r ≡ true → bytes ≡ []
told_empty bytes r is e = length_none bytes (eqb-true (length bytes) 0 (sym is ∙ e))

pub told_some : (bytes : List ℕ) (r : Bool) → r ≡ eqb (length bytes) 0 → r ≡ false → bytes ≢ []
told_some bytes r is e none = eqb-false (length bytes) 0 (sym is ∙ e) (ap length none)
