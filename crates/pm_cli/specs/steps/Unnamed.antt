-- The text of a sample whose map has any names of darts.
use Rattle.std.specs.Prelude.{ℕ, List}
use Rattle.pm_map.specs.Rotation.{RotationSystem}
use Rattle.pm_map.specs.Canonical.{IsCanonicalOf}
use Rattle.pm_cli.specs.Sampling.{IsTextOfSample}

-- the text of the canonical map of the map, and after it the residue line
pub record IsTextOfUnnamed (map : RotationSystem) (residue text : List ℕ) : Type 0 where
  pub canonical : RotationSystem
  pub is_canonical : IsCanonicalOf map canonical
  pub is_text : IsTextOfSample canonical residue text
