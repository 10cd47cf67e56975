-- What the reader of the lines of a map text has read so far.
use Rattle.std.specs.Prelude.{◌≡◌, ℕ, ◌+◌, ◌<◌, ◌≤◌, ◌^◌, List, [], ◌∷◌, ◌++◌, All, length, map, take, codes}
use Rattle.std.specs.List.{concat}
use Rattle.pm_lists.specs.Numbers.{spaced_numbers}
use Rattle.pm_lists.specs.steps.Numbers.{IsReadingNumbers}
use Rattle.pm_mapfile.specs.MapText.{vertex_line}
use Rattle.pm_mapfile.specs.MapFile.{AreMapLines, IsFirstLine, IsVertexLine, lines_text}

-- the text is the tag and these numbers of 64 bits, a space before each; it stands without its newline
pub record IsNumbersLine (tag text numbers : List ℕ) : Type 0 where
  pub fit : All (λ number. number < 2 ^ 64) numbers
  pub spelled : text ≡ tag ++ spaced_numbers numbers

-- so many bytes at the prefix are the line of a vertex for whose darts there is room; they are appended
pub record ReadsDarts (darts : ℕ) (bytes : List ℕ) (count : ℕ) (old new : List ℕ) : Type 0 where
  pub vertex : List ℕ
  pub is_vertex : IsVertexLine darts vertex
  pub within : count ≤ length bytes
  pub line : take count bytes ≡ vertex_line vertex
  pub appended : new ≡ old ++ vertex
  pub room : length new ≤ darts

-- the same, and how many the darts are is appended to the sizes
pub record ReadsVertex (darts : ℕ) (bytes : List ℕ) (count : ℕ) (old new old_sizes new_sizes : List ℕ) : Type 0 where
  pub read : ReadsDarts darts bytes count old new
  pub sized : new_sizes ≡ old_sizes ++ length read.vertex ∷ []

-- the bytes don't begin with such a line
abbrev pub HasNoVertex : ℕ → List ℕ → List ℕ → Type 0
HasNoVertex darts bytes old =
    (vertex more : List ℕ) → IsVertexLine darts vertex → length old + length vertex ≤ darts → bytes ≡ vertex_line vertex ++ more → ⊥

-- the bytes up to this place begin the line of a vertex; its darts so far are appended, with room for them
pub record IsReadingDarts (darts : ℕ) (bytes : List ℕ) (place : ℕ) (old new : List ℕ) : Type 0 where
  pub vertex : List ℕ
  pub reading : IsReadingNumbers (codes "v") bytes place vertex
  pub below : All (λ dart. dart < darts) vertex
  pub appended : new ≡ old ++ vertex
  pub room : 0 < length vertex → length new ≤ darts

-- the line is a first line, with these numbers
pub record IsFirstText (text : List ℕ) (edges root : ℕ) : Type 0 where
  pub first : IsFirstLine edges root
  pub line : IsNumbersLine (codes "map") text (edges ∷ root ∷ [])

-- what the map text at the prefix of the bytes says: the number of edges and the root, the darts of all lines one after
-- another, and how many stand on each line; and the place after its last line
pub record IsReadMap (bytes : List ℕ) (edges root : ℕ) (darts sizes : List ℕ) (after : ℕ) : Type 0 where
  pub vertices : List (List ℕ)
  pub are_lines : AreMapLines (record { edges = edges; root = root; vertices = vertices })
  pub darts_are : darts ≡ concat vertices
  pub sizes_are : sizes ≡ map length vertices
  pub within : after ≤ length bytes
  pub prefix : take after bytes ≡ lines_text (record { edges = edges; root = root; vertices = vertices })
