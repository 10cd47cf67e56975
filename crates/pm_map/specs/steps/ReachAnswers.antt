-- How far the root reaches.
use Rattle.std.specs.Prelude.{◌≡◌, ℕ}
use Rattle.pm_map.specs.declared.reaching.Reach.{Reach}
use Rattle.pm_map.specs.declared.reaching.Reach.TheVariants.{Everywhere, ShortOf}
use Rattle.pm_map.specs.Structure.{Structure, IsConnected}
use Rattle.pm_map.specs.Plane.{faces}
use Rattle.pm_map.specs.Reached.{IsLeastUnreached}

-- the structure is connected, and this is the number of its faces
pub record IsReachedWhole (s : Structure) (count : ℕ) : Type 0 where
  pub connected : IsConnected s
  pub counted : count ≡ faces s

-- The answer of the search from the root: the number of faces, or the least dart that isn't reached.
abbrev pub IsReachAnswer : Structure → Reach → Type 0
IsReachAnswer s (Everywhere count) = IsReachedWhole s count
IsReachAnswer s (ShortOf dart) = IsLeastUnreached s dart
