-- The text of a map: a line `map E R` with the number of edges and the root, a line for each vertex, and a line `end`.
use Rattle.std.specs.Prelude.{◌≡◌, ℕ, ◌/◌, List, [], ◌∷◌, ◌++◌, length, decimal, codes}
use Rattle.pm_lists.specs.Numbers.{spaced_numbers}
use Rattle.pm_map.specs.Rotation.{RotationSystem, structure_of}
use Rattle.pm_map.specs.Meeting.{IsMeetingList}
use Rattle.pm_map.specs.Canonical.{IsCanonicalOf}

-- the line of a vertex: `v`, and its darts in order, each after a space (10 is the newline)
abbrev pub vertex_line : List ℕ → List ℕ
vertex_line vertex = codes "v" ++ spaced_numbers vertex ++ 10 ∷ []

-- the lines of some vertices
abbrev pub vertex_lines : List (List ℕ) → List ℕ
vertex_lines [] = []
vertex_lines (vertex ∷ vertices) = vertex_line vertex ++ vertex_lines vertices

-- the first line
abbrev pub map_line : ℕ → ℕ → List ℕ
map_line edges root = codes "map " ++ decimal edges ++ 32 ∷ [] ++ decimal root ++ 10 ∷ []

-- the line of the number of edges and the root, and the lines of vertices in this order
abbrev pub vertices_text : ℕ → ℕ → List (List ℕ) → List ℕ
vertices_text edges root vertices = map_line edges root ++ vertex_lines vertices

-- the text of a map with its vertices in this order
abbrev pub map_text : RotationSystem → List (List ℕ) → List ℕ
map_text m vertices = vertices_text (length m.sigma / 2) m.root vertices ++ codes "end\n"

-- the text of the map: its vertices stand in the order of the meeting list, each from the dart at which it is met
pub record IsMapText (m : RotationSystem) (text : List ℕ) : Type 0 where
  pub vertices : List (List ℕ)
  pub is_list : IsMeetingList (structure_of m) vertices
  pub is_text : text ≡ map_text m vertices

-- a law: a map has one text
abbrev pub HasOneText : Type 0
HasOneText = (m : RotationSystem) (one other : List ℕ) → IsMapText m one → IsMapText m other → one ≡ other

-- the text of the map is added
pub record AppendsMapText (m : RotationSystem) (old new : List ℕ) : Type 0 where
  pub bytes : List ℕ
  pub is_map_text : IsMapText m bytes
  pub appended : new ≡ old ++ bytes

-- the text of the canonical map
pub record HasCanonicalText (map : RotationSystem) (text : List ℕ) : Type 0 where
  pub canonical : RotationSystem
  pub is_canonical : IsCanonicalOf map canonical
  pub is_text : IsMapText canonical text
