-- Tables of degrees: how many vertices have which degree.
use Rattle.std.specs.Prelude.{◌≡◌, ℕ, suc, ◌≤◌, List, length, slice_index}
use Rattle.pm_map.specs.Structure.{Structure}
use Rattle.pm_map.specs.Classes.{vertices_of_degree}

-- entry d is the number of vertices of degree d, for each degree up to the greatest
pub record AreVertexCounts (s : Structure) (greatest : ℕ) (table : List ℕ) : Type 0 where
  pub as_long : length table ≡ suc greatest
  pub each : (degree : ℕ) → degree ≤ greatest → slice_index table degree ≡ vertices_of_degree s degree
