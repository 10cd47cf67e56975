-- Words of a line, between single spaces.
use Rattle.std.specs.Prelude.{◌≢◌, ℕ, Bool, All, List, [], ◌∷◌, ◌==◌}
use Rattle.std.specs.List.{slice_split}

-- the byte is a space
abbrev pub is_space : ℕ → Bool
is_space byte = byte == 32

-- the stretches between single spaces: two spaces in a row have an empty word between them, and so has
-- a space at either end. An empty text has no word.
abbrev pub words : List ℕ → List (List ℕ)
words [] = []
words (byte ∷ bytes) = slice_split is_space (byte ∷ bytes)

-- none of the bytes is a space
pub record HasNoSpace (word : List ℕ) : Type 0 where
  pub each : All (λ byte. byte ≢ 32) word
