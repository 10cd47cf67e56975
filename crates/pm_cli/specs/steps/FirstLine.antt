-- What the code that reads a file of one line answers of its first line.
use Rattle.std.specs.Prelude.{◌≡◌, ◌≢◌, ℕ, ◌<◌, ◌≤◌, Bool, true, false, List, [], ◌∷◌, ◌++◌, length}
use Rattle.pm_text.specs.Broken.{newline, HasNoNewline}

-- the text of the first line, which is ended, and whether nothing follows
pub record IsFirstLine (bytes text : List ℕ) (alone : Bool) : Type 0 where
  pub no_newline : HasNoNewline text
  pub rest : List ℕ
  pub whole : bytes ≡ text ++ newline ∷ rest
  pub last : alone ≡ true → rest ≡ []
  pub more : alone ≡ false → rest ≢ []

-- the first line is the tag and this word, which has a letter
pub record IsTagged (tag bytes word : List ℕ) (alone : Bool) : Type 0 where
  pub line : IsFirstLine bytes (tag ++ word) alone
  pub some : 0 < length word
  pub within : length word ≤ length bytes

-- the text isn't the tag and a word that has a letter
abbrev pub HasNoTag : List ℕ → List ℕ → Type 0
HasNoTag tag text = (word : List ℕ) → 0 < length word → text ≡ tag ++ word → ⊥

-- no first line is ended, or it is no such line
pub data IsUntagged (tag bytes : List ℕ) : Type 0 where
  no_line : HasNoNewline bytes → IsUntagged tag bytes
  no_tag : (text : List ℕ) (alone : Bool) → IsFirstLine bytes text alone → HasNoTag tag text → IsUntagged tag bytes
