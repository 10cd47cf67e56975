-- A text that is read line by line: what was given out, and what is left.
use Rattle.std.specs.Prelude.{◌≡◌, ◌≢◌, ℕ, Bool, false, List, [], ◌∷◌, ◌++◌, length, take, drop, if◌then◌else◌}
use Rattle.pm_text.specs.Broken.{newline, HasNoNewline}

-- the bytes given so far, and the bytes that are left
pub record Reading : Type 0 where
  pub given : List ℕ
  pub rest : List ℕ

-- nothing was given yet
abbrev pub reading_of : List ℕ → Reading
reading_of bytes = record { given = []; rest = bytes }

-- `bytes` of which the first `count` were given
abbrev pub reading_at : List ℕ → ℕ → Reading
reading_at bytes count = record { given = take count bytes; rest = drop count bytes }

-- what ends a line: a newline, or nothing where the line is unfinished
abbrev pub ending : Bool → List ℕ
ending ended = if ended then newline ∷ [] else []

-- from `old` to `new` one line is given: `text` and, where it ended, its newline. A line that no
-- newline ends is the last, and has a byte at least. `after` is how many bytes were given in all.
pub record IsNextLine (old new : Reading) (text : List ℕ) (ended : Bool) (after : ℕ) : Type 0 where
  pub no_newline : HasNoNewline text
  pub left : old.rest ≡ text ++ (ending ended ++ new.rest)
  pub now_given : new.given ≡ old.given ++ (text ++ ending ended)
  pub place : after ≡ length new.given
  pub unfinished : ended ≡ false → (text ≢ []) × (new.rest ≡ [])
