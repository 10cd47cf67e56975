-- The broken line where a reader stops, in terms of the lines that it was given.
use Rattle.std.proofs.Common.{◌≡◌, ◌≢◌, ℕ, ◌+◌, true, false, List, [], ◌∷◌, ◌++◌, sym, ap, ◌∙◌, subst, append_assoc}
use Rattle.pm_text.specs.Broken.{newline, HasNoNewline, first_lines, IsBrokenLine, IsOneLineForm}
use Rattle.pm_text.specs.Reading.{Reading, reading_of, IsNextLine}
use Rattle.pm_text.proofs.LineLemmas.{HasNoNewline-nil, IsWholeLines, begins_with_line, is_unfinished}
use Rattle.pm_text.proofs.ReadingLemmas.{unfinished_is_all}
use Rattle.pm_text.proofs.BrokenLemmas.{next_line_is_broken, first_line_is_broken, unfinished_line_is_broken, second_line_is_broken}

-- after `count` whole lines, from which some valid file goes on, the next line ends, and no valid file has it there
pub broken_at_line : (valid : List ℕ → Type 0) (count after : ℕ) (bytes tail text : List ℕ) (old new : Reading) → bytes ≡ old.given ++ old.rest → IsWholeLines count old.given → valid (old.given ++ tail) → IsNextLine old new text true after → ((more : List ℕ) → valid (old.given ++ (text ++ newline ∷ more)) → ⊥) → IsBrokenLine valid bytes (count + 1)
broken_at_line valid count after bytes tail text old new is whole is_valid next none =
    next_line_is_broken valid count bytes old.given old.rest tail is whole is_valid
    (λ other other_valid same.
    let goes_on = begins_with_line text new.rest other next.no_newline (same ∙ ap (first_lines 1) next.left) in
    let begun : other ≡ text ++ newline ∷ goes_on.tail = goes_on.whole ∙ append_assoc text (newline ∷ []) goes_on.tail in
    none goes_on.tail (subst (λ rest. valid (old.given ++ rest)) begun other_valid))

-- the same, where no newline stands in the bytes that are left, or none are, and the file is not valid
pub broken_at_end : (valid : List ℕ → Type 0) (count : ℕ) (bytes tail : List ℕ) (old : Reading) → bytes ≡ old.given ++ old.rest → IsWholeLines count old.given → valid (old.given ++ tail) → HasNoNewline old.rest → (valid bytes → ⊥) → IsBrokenLine valid bytes (count + 1)
broken_at_end valid count bytes tail old is whole is_valid h not_valid =
    next_line_is_broken valid count bytes old.given old.rest tail is whole is_valid
    (λ other other_valid same.
    let all = is_unfinished old.rest other h same in
    not_valid (subst valid (ap (λ rest. old.given ++ rest) all ∙ sym is) other_valid))

-- a form of one line: there is no line
pub one_line_missing : (valid : List ℕ → Type 0) (file : List ℕ) → IsOneLineForm valid → valid file → IsBrokenLine valid [] 1
one_line_missing valid file form is_valid = unfinished_line_is_broken valid file [] form is_valid HasNoNewline-nil

-- the first line is unfinished
pub one_line_unfinished : (valid : List ℕ → Type 0) (after : ℕ) (file bytes text : List ℕ) (new : Reading) → IsOneLineForm valid → valid file → IsNextLine (reading_of bytes) new text false after → IsBrokenLine valid bytes 1
one_line_unfinished valid after file bytes text new form is_valid next =
    let all = unfinished_is_all after (reading_of bytes) new text next in
    subst (λ bs. IsBrokenLine valid bs 1) (sym all) (unfinished_line_is_broken valid file text form is_valid next.no_newline)

-- the first line ends, and is no valid file
pub one_line_invalid : (valid : List ℕ → Type 0) (after : ℕ) (file bytes text : List ℕ) (new : Reading) → IsOneLineForm valid → valid file → IsNextLine (reading_of bytes) new text true after → (valid (text ++ newline ∷ []) → ⊥) → IsBrokenLine valid bytes 1
one_line_invalid valid after file bytes text new form is_valid next not_valid =
    subst (λ bs. IsBrokenLine valid bs 1) (sym next.left) (first_line_is_broken valid file text new.rest form is_valid next.no_newline not_valid)

-- the first line is a valid file, and bytes follow
pub one_line_followed : (valid : List ℕ → Type 0) (after : ℕ) (bytes text : List ℕ) (new : Reading) → IsOneLineForm valid → IsNextLine (reading_of bytes) new text true after → valid (text ++ newline ∷ []) → new.rest ≢ [] → IsBrokenLine valid bytes 2
one_line_followed valid after bytes text new form next is_valid more =
    let is : (text ++ newline ∷ []) ++ new.rest ≡ bytes = append_assoc text (newline ∷ []) new.rest ∙ sym next.left in
    subst (λ bs. IsBrokenLine valid bs 2) is (second_line_is_broken valid (text ++ newline ∷ []) new.rest form is_valid more)

-- the first line ends, and nothing follows
pub one_line_whole : (after : ℕ) (bytes text : List ℕ) (new : Reading) → IsNextLine (reading_of bytes) new text true after → new.rest ≡ [] → bytes ≡ text ++ newline ∷ []
one_line_whole after bytes text new next none = next.left ∙ ap (λ rest. text ++ newline ∷ rest) none
