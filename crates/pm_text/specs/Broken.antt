-- The lines of a file, and the line at which a file breaks the form that it should have.
-- A form is a predicate on whole files: the files that are valid.
use Rattle.std.specs.Prelude.{◌≡◌, ◌≢◌, ℕ, ◌<◌, List, [], ◌∷◌, ◌++◌, ◌==◌, if◌then◌else◌, All, take}
use Rattle.std.specs.List.{onto_first}

-- the byte that ends a line
abbrev pub newline : ℕ
newline = 10

-- none of the bytes is a newline
pub record HasNoNewline (text : List ℕ) : Type 0 where
  pub each : All (λ byte. byte ≢ newline) text

-- the pieces up to and with each newline; bytes after the last newline are one more piece
abbrev pub lines : List ℕ → List (List ℕ)
lines [] = []
lines (byte ∷ bytes) = if byte == newline then (byte ∷ []) ∷ lines bytes else onto_first byte (lines bytes)

-- the lines, and then the end of the file as one more piece, an empty one, which no line is
abbrev pub lines_and_end : List ℕ → List (List ℕ)
lines_and_end bytes = lines bytes ++ [] ∷ []

-- the first `count` lines; of a file that has fewer, all its lines and its end
abbrev pub first_lines : ℕ → List ℕ → List (List ℕ)
first_lines count bytes = take count (lines_and_end bytes)

-- some valid file has the same first `count` lines as `bytes`
pub record GoesOnValid (valid : List ℕ → Type 0) (bytes : List ℕ) (count : ℕ) : Type 0 where
  pub file : List ℕ
  pub is_valid : valid file
  pub same : first_lines count file ≡ first_lines count bytes

-- the broken line of `bytes`, counted from 1: the least number such that no valid file has the same
-- first lines up to it. It may be a line that stands there and should not, an unfinished line at the
-- end, or the place of a line that is missing.
pub record IsBrokenLine (valid : List ℕ → Type 0) (bytes : List ℕ) (line : ℕ) : Type 0 where
  pub broken : (file : List ℕ) → valid file → first_lines line file ≢ first_lines line bytes
  pub least : (fewer : ℕ) → fewer < line → GoesOnValid valid bytes fewer

-- `text` and a newline after it are the whole of `bytes`
pub record IsOneLine (bytes : List ℕ) : Type 0 where
  pub text : List ℕ
  pub no_newline : HasNoNewline text
  pub whole : bytes ≡ text ++ newline ∷ []

-- a form each of whose valid files is one line
pub record IsOneLineForm (valid : List ℕ → Type 0) : Type 0 where
  pub one_line : (file : List ℕ) → valid file → IsOneLine file

-- a valid file has no broken line
abbrev pub ValidHasNoBrokenLine : (List ℕ → Type 0) → Type 0
ValidHasNoBrokenLine valid = (file : List ℕ) (line : ℕ) → valid file → ¬ IsBrokenLine valid file line

-- a file has at most one broken line
abbrev pub BrokenLineIsUnique : (List ℕ → Type 0) → Type 0
BrokenLineIsUnique valid =
    (bytes : List ℕ) (one other : ℕ) → IsBrokenLine valid bytes one → IsBrokenLine valid bytes other → one ≡ other
