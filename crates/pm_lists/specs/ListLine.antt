-- The line of a list: a tag and the numbers of the list, with single spaces between.
use Rattle.std.specs.Prelude.{◌≡◌, ℕ, ◌<◌, ◌^◌, ◌↔◌, Bool, false, not, ◌&&◌, ◌==◌, IsTrue, List, [], ◌∷◌, map, decimal, All}
use Rattle.std.specs.List.{AllZip, join_with_byte, list_all}
use Rattle.pm_text.specs.Broken.{newline}
use Rattle.pm_text.specs.Numeral.{IsNumber}

-- the byte between two words
abbrev pub space : ℕ
space = 32

-- the byte may stand in a tag: it is neither a space nor a newline
abbrev pub is_tag_byte : ℕ → Bool
is_tag_byte byte = not (byte == space) && not (byte == newline)

-- the word may stand at the head of a line: at least one byte, no space and no newline
abbrev pub is_tag : List ℕ → Bool
is_tag [] = false
is_tag (byte ∷ bytes) = list_all is_tag_byte (byte ∷ bytes)

-- the numbers have 64 bits
pub record AreWords (values : List ℕ) : Type 0 where
  pub each : All (λ value. value < 2 ^ 64) values

-- the line, without its newline, spells the list: it is the tag and, for each number, a word that
-- spells it, with single spaces between
pub record SpellsList (tag line values : List ℕ) : Type 0 where
  pub spelled : List (List ℕ)
  pub whole : line ≡ join_with_byte space (tag ∷ spelled)
  pub numbers : AllZip IsNumber spelled values

-- the line of the list, without its newline
abbrev pub list_line : List ℕ → List ℕ → List ℕ
list_line tag values = join_with_byte space (tag ∷ map decimal values)

-- a law: a list of numbers of 64 bits has one line, and no other list has a line
abbrev pub ListHasOneLine : Type 0
ListHasOneLine = (tag line values : List ℕ) → SpellsList tag line values ↔ (AreWords values × (line ≡ list_line tag values))

-- a law: a line spells at most one list
abbrev pub LineSpellsOneList : Type 0
LineSpellsOneList = (tag line one other : List ℕ) → IsTrue (is_tag tag) → SpellsList tag line one → SpellsList tag line other → one ≡ other
