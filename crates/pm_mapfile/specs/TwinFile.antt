-- Map texts of version 2, line by line, and map files of either version.
use Rattle.std.specs.Prelude.{◌≡◌, ℕ, ◌*◌, ◌<◌, ◌^◌, ◌⊎◌, List, ◌++◌, All, length}
use Rattle.pm_mapfile.specs.declared.class_line.ClassLine.{ClassLine}
use Rattle.pm_mapfile.specs.MapFile.{MapLines, AreMapLines, IsAfterMap, IsResidueLine, IsMapFile, IsSampleFile}
use Rattle.pm_mapfile.specs.ClassText.{IsClassLine}
use Rattle.pm_mapfile.specs.TwinText.{text_with_twins}

-- what the lines of a map text of version 2 say: the class, what those of version 1 say, and the two darts of each edge
pub record LinesWithTwins : Type 0 where
  pub class : ClassLine
  pub map : MapLines
  pub twins : List (ℕ × ℕ)

-- the numbers on the line of an edge, where there are so many darts: two darts, each a number of 64 bits
pub record IsTwinLine (darts : ℕ) (twins : ℕ × ℕ) : Type 0 where
  pub below : (twins.0 < darts) × (twins.1 < darts)
  pub fit : (twins.0 < 2 ^ 64) × (twins.1 < 2 ^ 64)

-- the lines of a map text of version 2: after the class line those of version 1 up to the last vertex, and then a line for
-- each edge
pub record AreLinesWithTwins (lines : LinesWithTwins) : Type 0 where
  pub class : IsClassLine lines.class
  pub map : AreMapLines lines.map
  pub each : All (IsTwinLine (2 * lines.map.edges)) lines.twins
  pub count : length lines.twins ≡ lines.map.edges

-- the bytes that say so
abbrev pub lines_with_twins_text : LinesWithTwins → List ℕ
lines_with_twins_text lines = text_with_twins lines.class lines.map.edges lines.map.root lines.map.vertices lines.twins

-- a map text of version 2, then bytes of this form, and nothing more
pub record IsTextWithTwinsBefore (form : List ℕ → Type 0) (bytes : List ℕ) : Type 0 where
  pub lines : LinesWithTwins
  pub are_lines : AreLinesWithTwins lines
  pub rest : List ℕ
  pub after : form rest
  pub spelled : bytes ≡ lines_with_twins_text lines ++ rest

-- a map file of either version; the first line tells which
abbrev pub IsFileOfEitherVersion : List ℕ → Type 0
IsFileOfEitherVersion bytes = IsMapFile bytes ⊎ IsTextWithTwinsBefore IsAfterMap bytes

-- a sample file of either version
abbrev pub IsSampleOfEitherVersion : List ℕ → Type 0
IsSampleOfEitherVersion bytes = IsSampleFile bytes ⊎ IsTextWithTwinsBefore IsResidueLine bytes
