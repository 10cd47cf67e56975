-- Orientations with the root's edge turned over.
use Rattle.std.specs.Prelude.{◌≡◌, ℕ, ◌<◌, Bool, not, eqb, ◌||◌, if◌then◌else◌}
use Rattle.pm_map.specs.Structure.{Structure, IsStructure, dual}
use Rattle.pm_map.specs.Plane.{HasEulerTwo}
use Rattle.pm_walk.specs.Led.{IsLed}
use Rattle.pm_led.specs.LedLaws.{IsLedBothWays}
use Rattle.pm_led.specs.Orientation.{HaveSameDegrees}

-- the dart is one of the root's edge
abbrev pub is_at_root : Structure → ℕ → Bool
is_at_root s d = eqb d s.root || eqb d (s.twin s.root)

-- the darts of the root's edge turned over, and the others as they are
abbrev pub turned_at_root : Structure → (ℕ → Bool) → ℕ → Bool
turned_at_root s out d = if is_at_root s d then not (out d) else out d

-- Two orientations with the same out-degrees and the same direction of the root's edge, which with that edge turned over lead
-- to all faces, and one of them to all vertices too: they are one.
abbrev pub TurnedOrientationIsOne : Type 0
TurnedOrientationIsOne = (s : Structure) (out other : ℕ → Bool) → IsStructure s → 0 < s.darts → HasEulerTwo s → HaveSameDegrees s out other → other s.root ≡ out s.root
    → IsLedBothWays s (turned_at_root s out) → IsLed (dual s) (turned_at_root s other) → (d : ℕ) → d < s.darts → other d ≡ out d
