-- What else holds of each class: of its members, of the numbers that bound its choices and residues, and of its edges.
use Rattle.std.specs.Prelude.{◌≡◌, ℕ, ◌+◌, ◌*◌, ◌≤◌, List, length, All}
use Rattle.pm_limits.specs.declared.TheConstants.{MAX_EDGES}
use Rattle.pm_lists.specs.ListLine.{AreWords}
use Rattle.pm_lists.specs.Valid.{AreBounds}
use Rattle.pm_map.specs.Structure.{Same}
use Rattle.pm_map.specs.Rotation.{RotationSystem, structure_of, IsRootedMap}

-- a map that differs only in the names of darts is in the class and has the size too
abbrev pub IsKeptByRenumbering : (RotationSystem → Type 0) → Type 0
IsKeptByRenumbering has = (map other : RotationSystem) → IsRootedMap map → IsRootedMap other → Same (structure_of map) (structure_of other) → has map → has other

-- the bounds of the choices and those of the residues are not too many; those of the choices have 64 bits, and those of the
-- residues are not too great
pub record AreLimits (choices residues : List ℕ) : Type 0 where
  pub choice_bounds : AreBounds choices
  pub choices_fit : AreWords choices
  pub few_choices : length choices ≤ 2 * MAX_EDGES + 2
  pub residue_bounds : AreBounds residues
  pub few_residues : length residues ≤ 2 * MAX_EDGES + 2
  pub low_residues : All (λ bound. bound ≤ 2 * MAX_EDGES) residues

-- no map of the class has more edges than this, and all those of some size have as many
pub record HasMostEdges {Size : Type 0} (is_size : Size → Type 0) (has : Size → RotationSystem → Type 0) (most : ℕ) : Type 0 where
  pub within : (size : Size) (map : RotationSystem) → is_size size → IsRootedMap map → has size map → length map.sigma ≤ 2 * most
  pub greatest : Size
  pub is_greatest : is_size greatest
  pub reached : (map : RotationSystem) → IsRootedMap map → has greatest map → length map.sigma ≡ 2 * most
