-- The canonical map of the closure of a tree.
use Rattle.std.specs.Prelude.{ℕ, List}
use Rattle.pm_trees.specs.Word.{contour}
use Rattle.pm_map.specs.Rotation.{RotationSystem}
use Rattle.pm_map.specs.Canonical.{IsCanonicalOf}
use Rattle.pm_close.specs.Closure.{IsClosed}

pub record IsCanonicalClosure (word : List ℕ) (map : RotationSystem) : Type 0 where
  pub closure : RotationSystem
  pub is_closure : IsClosed (contour word) closure
  pub is_canonical : IsCanonicalOf closure map
