-- The text of a map in version 2: a line `planarmap 2`, the class line, the first line and the lines of vertices as in
-- version 1, a line for each edge that names its two darts, and the line `end`.
use Rattle.std.specs.Prelude.{◌≡◌, ℕ, zero, suc, ◌*◌, ◌/◌, List, [], ◌∷◌, ◌++◌, length, codes}
use Rattle.pm_lists.specs.Numbers.{spaced_numbers}
use Rattle.pm_map.specs.Rotation.{RotationSystem, structure_of}
use Rattle.pm_map.specs.Meeting.{IsMeetingList}
use Rattle.pm_mapfile.specs.declared.class_line.ClassLine.{ClassLine}
use Rattle.pm_mapfile.specs.MapText.{vertices_text}
use Rattle.pm_mapfile.specs.ClassText.{class_line}

-- the line of two twins: `t` and both darts, each after a space (10 is the newline)
abbrev pub twin_line : ℕ × ℕ → List ℕ
twin_line twins = codes "t" ++ spaced_numbers (twins.0 ∷ twins.1 ∷ []) ++ 10 ∷ []

-- the lines of some twins
abbrev pub twin_lines : List (ℕ × ℕ) → List ℕ
twin_lines [] = []
twin_lines (twins ∷ others) = twin_line twins ++ twin_lines others

-- the twins of so many edges: edge k has the darts 2k and 2k+1
abbrev pub edge_twins : ℕ → List (ℕ × ℕ)
edge_twins zero = []
edge_twins (suc edges) = edge_twins edges ++ (2 * edges, suc (2 * edges)) ∷ []

-- a text of version 2, from its parts: what the class line says, the number of edges, the root, the darts of each vertex and
-- the two darts of each edge
abbrev pub text_with_twins : ClassLine → ℕ → ℕ → List (List ℕ) → List (ℕ × ℕ) → List ℕ
text_with_twins class edges root vertices twins =
    codes "planarmap 2\n" ++ class_line class ++ vertices_text edges root vertices ++ twin_lines twins ++ codes "end\n"

-- the text of the map with this class line: its vertices stand in the order of the meeting list, each from the dart at which
-- it is met, and its edges in the order of their darts
pub record IsTextWithTwins (m : RotationSystem) (class : ClassLine) (text : List ℕ) : Type 0 where
  pub vertices : List (List ℕ)
  pub is_list : IsMeetingList (structure_of m) vertices
  pub is_text : text ≡ text_with_twins class (length m.sigma / 2) m.root vertices (edge_twins (length m.sigma / 2))

-- a law: a map and a class line have one text
abbrev pub HasOneTextWithTwins : Type 0
HasOneTextWithTwins =
    (m : RotationSystem) (class : ClassLine) (one other : List ℕ) → IsTextWithTwins m class one → IsTextWithTwins m class other → one ≡ other

-- the text of the map with this class line is added
pub record AppendsTextWithTwins (m : RotationSystem) (class : ClassLine) (old new : List ℕ) : Type 0 where
  pub bytes : List ℕ
  pub is_text : IsTextWithTwins m class bytes
  pub appended : new ≡ old ++ bytes
