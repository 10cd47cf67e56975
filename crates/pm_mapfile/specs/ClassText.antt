-- The class line of a map text of version 2: the word `class`, and `none`, or the name of a class and the size of the map.
use Rattle.std.specs.Prelude.{ℕ, ◌<◌, ◌^◌, List, [], ◌∷◌, ◌++◌, All, ⊤, length, decimal, codes}
use Rattle.pm_map.specs.Structure.{Structure}
use Rattle.pm_map.specs.Classes.{IsQuartic, IsGeneral, IsTriangulation, IsEulerian, IsBipartite}
use Rattle.pm_mapfile.specs.declared.class_line.ClassLine.{ClassLine}
use Rattle.pm_mapfile.specs.declared.class_line.ClassLine.TheVariants.{Unnamed, Quartic, General, Tri, Eulerian, Bipartite}
use Rattle.pm_mapfile.specs.ProfileText.{profile_text}

-- the class and the size, as they stand on the line
abbrev pub class_text : ClassLine → List ℕ
class_text Unnamed = codes "none"
class_text (Quartic size) = codes "quartic " ++ decimal size
class_text (General size) = codes "general " ++ decimal size
class_text (Tri size) = codes "tri " ++ decimal size
class_text (Eulerian pairs) = codes "eulerian " ++ profile_text pairs
class_text (Bipartite pairs) = codes "bipartite " ++ profile_text pairs

-- the line (10 is the newline)
abbrev pub class_line : ClassLine → List ℕ
class_line class = codes "class " ++ class_text class ++ 10 ∷ []

-- some pairs of numbers of 64 bits
pub record ArePairs (pairs : List (ℕ × ℕ)) : Type 0 where
  pub some : 0 < length pairs
  pub fit : All (λ (pair : ℕ × ℕ). (pair.0 < 2 ^ 64) × (pair.1 < 2 ^ 64)) pairs

-- a line spells it: a number has 64 bits, and there is a pair at least
abbrev pub IsClassLine : ClassLine → Type 0
IsClassLine Unnamed = ⊤
IsClassLine (Quartic size) = size < 2 ^ 64
IsClassLine (General size) = size < 2 ^ 64
IsClassLine (Tri size) = size < 2 ^ 64
IsClassLine (Eulerian pairs) = ArePairs pairs
IsClassLine (Bipartite pairs) = ArePairs pairs

-- What the line says of a map is true: no class is named, or the map is in the class with that size. No limit of sizes
-- matters. The map without darts has one vertex and one face of degree 0.
abbrev pub IsTrueClass : ClassLine → Structure → Type 0
IsTrueClass Unnamed s = ⊤
IsTrueClass (Quartic size) s = IsQuartic s size
IsTrueClass (General size) s = IsGeneral s size
IsTrueClass (Tri size) s = IsTriangulation s size
IsTrueClass (Eulerian pairs) s = IsEulerian s pairs
IsTrueClass (Bipartite pairs) s = IsBipartite s pairs

-- a list of pairs has a pair at least
abbrev pub HasSomePair : ClassLine → Type 0
HasSomePair Unnamed = ⊤
HasSomePair (Quartic size) = ⊤
HasSomePair (General size) = ⊤
HasSomePair (Tri size) = ⊤
HasSomePair (Eulerian pairs) = 0 < length pairs
HasSomePair (Bipartite pairs) = 0 < length pairs
