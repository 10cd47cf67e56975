-- Which darts the root reaches under rotation and twin.
use Rattle.std.specs.Prelude.{◌≡◌, ℕ, Bool, false, IsTrue}
use Rattle.pm_perm.specs.Least.{IsLeast}
use Rattle.pm_map.specs.Structure.{Structure, IsClosedSet}

-- each closed set that holds the root holds the dart
abbrev pub IsReached : Structure → ℕ → Type 0
IsReached s d = (holds : ℕ → Bool) → IsTrue (holds s.root) → IsClosedSet s holds → IsTrue (holds d)

-- some closed set holds the root and not the dart
pub record IsUnreached (s : Structure) (d : ℕ) : Type 0 where
  pub holds : ℕ → Bool
  pub root : IsTrue (holds s.root)
  pub closed : IsClosedSet s holds
  pub apart : holds d ≡ false

-- the least dart that the root doesn't reach
abbrev pub IsLeastUnreached : Structure → ℕ → Type 0
IsLeastUnreached s d = IsLeast s.darts (IsReached s) (IsUnreached s) d
