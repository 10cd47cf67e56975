-- Files of one line: a tag, which ends with a space, and a word.
use Rattle.std.specs.Prelude.{◌≡◌, ℕ, ◌<◌, List, [], ◌∷◌, ◌++◌, length}
use Rattle.pm_text.specs.Broken.{newline}

-- the file that spells the word, which has a letter and is of the kind that stands behind the tag
pub record IsWordLine (tag : List ℕ) (is_word : List ℕ → Type 0) (word bytes : List ℕ) : Type 0 where
  pub is : is_word word
  pub some : 0 < length word
  pub spelled : bytes ≡ tag ++ word ++ newline ∷ []

-- a valid file of such words
abbrev pub IsWordFile : List ℕ → (List ℕ → Type 0) → List ℕ → Type 0
IsWordFile tag is_word bytes = (word : List ℕ) × IsWordLine tag is_word word bytes

-- a file with this property of its word
pub record HasWordLine (tag : List ℕ) (is_word : List ℕ → Type 0) (bytes : List ℕ) (P : List ℕ → Type 0) : Type 0 where
  pub word : List ℕ
  pub spelled : IsWordLine tag is_word word bytes
  pub holds : P word
