-- The walk meets every dart exactly where darts lead both ways, to all vertices and to all faces. It is the generic opening of
-- plane maps [Albenque and Poulalhon 2015], told of any test of darts.
use Rattle.std.specs.Prelude.{ℕ, ◌<◌, Bool, not}
use Rattle.pm_perm.specs.Pairs.{IsNestedBelow}
use Rattle.pm_map.specs.Structure.{Structure, IsStructure, dual}
use Rattle.pm_map.specs.Plane.{HasEulerTwo}
use Rattle.pm_walk.specs.Walk.{across, partner}
use Rattle.pm_walk.specs.Led.{IsLed}
use Rattle.pm_led.specs.Walked.{IsWalked}

-- darts that do not go out lead from the root's vertex to all vertices, and darts that go out from the root's face to all
-- faces
pub record IsLedBothWays (s : Structure) (out : ℕ → Bool) : Type 0 where
  pub vertices : IsLed s (λ d. not (out d))
  pub faces : IsLed (dual s) out

-- the walk meets every dart, and along it the edges that are cut are nested, and so are the others
pub record IsWalkedNested (s : Structure) (out : ℕ → Bool) : Type 0 where
  pub walk : IsWalked s out
  pub kept : IsNestedBelow walk.walked.darts (across walk.walked walk.passes)
  pub cut : IsNestedBelow walk.walked.darts (partner walk.walked walk.passes)

abbrev pub EachLedMapIsWalked : Type 0
EachLedMapIsWalked = (s : Structure) (out : ℕ → Bool) → IsStructure s → 0 < s.darts → HasEulerTwo s → IsLedBothWays s out → IsWalkedNested s out

-- the converse
abbrev pub EachWalkedMapIsLed : Type 0
EachWalkedMapIsLed = (s : Structure) (out : ℕ → Bool) → IsStructure s → IsWalked s out → IsLedBothWays s out
