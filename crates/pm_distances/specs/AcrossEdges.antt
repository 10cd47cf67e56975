-- The distances of the two faces of an edge.
use Rattle.std.specs.Prelude.{◌≡◌, ◌⊎◌, ℕ, suc, ◌%◌, ◌<◌}
use Rattle.pm_map.specs.Structure.{Structure}
use Rattle.pm_map.specs.Plane.{IsPlane}
use Rattle.pm_map.specs.CycleSize.{IsCycleSize}
use Rattle.pm_map.specs.FaceDistance.{IsFaceDistance}

-- each vertex has an even degree, however great
abbrev pub AllDegreesAreEven : Structure → Type 0
AllDegreesAreEven s = (d degree : ℕ) → d < s.darts → IsCycleSize s.next d degree → degree % 2 ≡ 0

-- in a plane structure with even degrees the distances of the two faces of an edge from the root's face differ by one
abbrev pub DistancesDifferByOne : Type 0
DistancesDifferByOne = (s : Structure) → IsPlane s → AllDegreesAreEven s
    → (d here beyond : ℕ) → d < s.darts → IsFaceDistance s s.root d here → IsFaceDistance s s.root (s.twin d) beyond
    → (beyond ≡ suc here) ⊎ (here ≡ suc beyond)
