-- What the walk leaves in a plane structure.
use Rattle.std.specs.Prelude.{◌≡◌, ℕ, ◌<◌, Bool}
use Rattle.pm_perm.specs.Pairs.{IsNestedBelow}
use Rattle.pm_map.specs.Structure.{Structure, IsStructure, CarriesTo}
use Rattle.pm_map.specs.Plane.{HasEulerTwo}
use Rattle.pm_walk.specs.Walk.{IsWalkedInOrder, across, partner}

-- the edges that are kept are nested, and so are those that are cut
abbrev pub WalkedEdgesAreNested : Type 0
WalkedEdgesAreNested = (s : Structure) (out : ℕ → Bool) → IsStructure s → 0 < s.darts → HasEulerTwo s → IsWalkedInOrder s out
    → IsNestedBelow s.darts (across s out) × IsNestedBelow s.darts (partner s out)

-- a renumbering of darts that carries a walked structure to a walked structure, and the one test of darts to the other,
-- leaves each dart as it is: the numbers along the walk are the only ones
abbrev pub WalkHasOneNumbering : Type 0
WalkHasOneNumbering = (s t : Structure) (out t_out : ℕ → Bool) (rename : ℕ → ℕ) → IsStructure s → CarriesTo rename s t → IsWalkedInOrder s out → IsWalkedInOrder t t_out
    → ((d : ℕ) → d < s.darts → t_out (rename d) ≡ out d) → (d : ℕ) → d < s.darts → rename d ≡ d
