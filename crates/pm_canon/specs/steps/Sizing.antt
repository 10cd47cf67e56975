-- Vertices one after another, and their sizes.
use Rattle.std.specs.Prelude.{◌≡◌, ℕ, List, [], ◌∷◌, length, map}
use Rattle.pm_map.specs.Structure.{Structure}
use Rattle.pm_map.specs.Meeting.{IsVertexFrom, darts_of}

-- each of the lists is a vertex from its first dart
pub data AreVertices (s : Structure) : List (List ℕ) → Type 0 where
  none : AreVertices s []
  some : (d : ℕ) (vertex : List ℕ) (vertices : List (List ℕ)) → IsVertexFrom s d vertex → AreVertices s vertices → AreVertices s (vertex ∷ vertices)

-- the darts are those of some vertices, one vertex after another, and the sizes tell how many each has
pub record AreSized (s : Structure) (darts sizes : List ℕ) : Type 0 where
  pub vertices : List (List ℕ)
  pub are : AreVertices s vertices
  pub darts_are : darts ≡ darts_of vertices
  pub sizes_are : sizes ≡ map length vertices
