-- Map files: which bytes are the text of a map, line by line. Whether the vertices make a map is no matter of the text.
use Rattle.std.specs.Prelude.{◌≡◌, ℕ, ◌*◌, ◌<◌, ◌^◌, List, [], ◌∷◌, ◌++◌, All, Option, Some, None, MatchOption, ⊤, length, codes}
use Rattle.std.specs.List.{concat}
use Rattle.pm_text.specs.Broken.{newline}
use Rattle.pm_lists.specs.ListLine.{AreWords, list_line}
use Rattle.pm_mapfile.specs.MapText.{vertices_text}

-- what the lines of a map text say: the number of edges, the root, and the darts on the line of each vertex
pub record MapLines : Type 0 where
  pub edges : ℕ
  pub root : ℕ
  pub vertices : List (List ℕ)

-- the numbers of a first line: both are numbers of 64 bits; the root is one of the darts, twice as many as edges, or
-- both numbers are 0
pub record IsFirstLine (edges root : ℕ) : Type 0 where
  pub edges_fit : edges < 2 ^ 64
  pub root_fits : root < 2 ^ 64
  pub within : 0 < edges → root < 2 * edges
  pub no_edge : edges ≡ 0 → root ≡ 0

-- the numbers on the line of a vertex, where there are so many darts: at least one, each a dart and a number of 64 bits
pub record IsVertexLine (darts : ℕ) (vertex : List ℕ) : Type 0 where
  pub some : 0 < length vertex
  pub below : All (λ dart. dart < darts) vertex
  pub fit : All (λ dart. dart < 2 ^ 64) vertex

-- the lines of a map text: the lines of all vertices have twice as many darts as there are edges
pub record AreMapLines (m : MapLines) : Type 0 where
  pub first : IsFirstLine m.edges m.root
  pub each : All (IsVertexLine (2 * m.edges)) m.vertices
  pub count : length (concat m.vertices) ≡ 2 * m.edges

-- the bytes that say so: the first line, a line for each vertex, and the line `end`
abbrev pub lines_text : MapLines → List ℕ
lines_text m = vertices_text m.edges m.root m.vertices ++ codes "end\n"

-- a map text, and anything after it
pub record BeginsWithMapText (bytes : List ℕ) : Type 0 where
  pub lines : MapLines
  pub are_lines : AreMapLines lines
  pub rest : List ℕ
  pub spelled : bytes ≡ lines_text lines ++ rest

-- the residue line that a file has or hasn't: `residue` and numbers
abbrev pub residue_text : Option (List ℕ) → List ℕ
residue_text None = []
residue_text (Some numbers) = list_line (codes "residue") numbers ++ newline ∷ []

-- what stands after a map text in a map file: nothing, or a residue line whose numbers have 64 bits
pub record IsResidue (residue : Option (List ℕ)) (bytes : List ℕ) : Type 0 where
  pub fit : MatchOption residue ⊤ AreWords
  pub spelled : bytes ≡ residue_text residue

abbrev pub IsAfterMap : List ℕ → Type 0
IsAfterMap bytes = (residue : Option (List ℕ)) × IsResidue residue bytes

-- one residue line
abbrev pub IsResidueLine : List ℕ → Type 0
IsResidueLine bytes = (residue : List ℕ) × IsResidue (Some residue) bytes

-- a map text, then bytes of this form, and nothing more
pub record IsTextBefore (form : List ℕ → Type 0) (bytes : List ℕ) : Type 0 where
  pub lines : MapLines
  pub are_lines : AreMapLines lines
  pub rest : List ℕ
  pub after : form rest
  pub spelled : bytes ≡ lines_text lines ++ rest

-- a map file: a map text, then at most one residue line, and nothing more
abbrev pub IsMapFile : List ℕ → Type 0
IsMapFile bytes = IsTextBefore IsAfterMap bytes

-- a sample file: a map text, then one residue line, and nothing more
abbrev pub IsSampleFile : List ℕ → Type 0
IsSampleFile bytes = IsTextBefore IsResidueLine bytes
