-- Orientations: a direction for each edge, told by a test of darts.
use Rattle.std.specs.Prelude.{◌≡◌, ℕ, ◌<◌, Bool, not, eqb, ◌&&◌}
use Rattle.pm_perm.specs.Count.{count_below}
use Rattle.pm_perm.specs.Cycles.{leader}
use Rattle.pm_map.specs.Structure.{Structure, IsStructure, dual}
use Rattle.pm_map.specs.Plane.{HasEulerTwo}
use Rattle.pm_walk.specs.Led.{IsLed}
use Rattle.pm_walk.specs.Walk.{IsWalkedInOrder}
use Rattle.pm_led.specs.Walked.{IsWalked}

-- of the two darts of each edge just one goes out
pub record IsOrientation (s : Structure) (out : ℕ → Bool) : Type 0 where
  pub one_out : (d : ℕ) → d < s.darts → out (s.twin d) ≡ not (out d)

-- how many darts of the vertex of this dart go out; two darts are of one vertex exactly where they have one leader
abbrev pub out_degree : Structure → (ℕ → Bool) → ℕ → ℕ
out_degree s out d = count_below (λ k. eqb (leader s.darts s.next k) (leader s.darts s.next d) && out k) s.darts

-- two orientations by which equally many darts go out at each vertex
pub record HaveSameDegrees (s : Structure) (out other : ℕ → Bool) : Type 0 where
  pub first : IsOrientation s out
  pub second : IsOrientation s other
  pub degrees : (d : ℕ) → d < s.darts → out_degree s other d ≡ out_degree s out d

-- the walk follows the only orientation of its degrees that leads to all faces
abbrev pub OneOrientation : Type 0
OneOrientation = (s : Structure) (out other : ℕ → Bool) → IsStructure s → 0 < s.darts → HasEulerTwo s → IsWalkedInOrder s out → HaveSameDegrees s out other
    → IsLed (dual s) other → (d : ℕ) → d < s.darts → other d ≡ out d

-- the same where the walk meets every dart, whatever their numbers
abbrev pub WalkedMapHasOneOrientation : Type 0
WalkedMapHasOneOrientation = (s : Structure) (out other : ℕ → Bool) → IsStructure s → 0 < s.darts → HasEulerTwo s → IsWalked s out → HaveSameDegrees s out other
    → IsLed (dual s) other → (d : ℕ) → d < s.darts → other d ≡ out d
