-- The darts around a face, in order from one of them.
use Rattle.std.specs.Prelude.{◌≡◌, ℕ, zero, suc, ◌<◌, ◌%◌, ◌==◌, List, [], ◌∷◌, length, Option, None, Some, if◌then◌else◌}
use Rattle.pm_perm.specs.Permutation.{IsPermutationBelow}
use Rattle.pm_perm.specs.Cycles.{repeated}
use Rattle.pm_map.specs.Structure.{Structure, dual}
use Rattle.pm_map.specs.Rotation.{face_step}
use Rattle.pm_map.specs.Meeting.{IsVertexFrom}

-- the list is the face of d, from d on: each dart is followed by the next around the face, the last leads back to d, and
-- d stands once
abbrev pub IsFaceFrom : Structure → ℕ → List ℕ → Type 0
IsFaceFrom s d face = IsVertexFrom (dual s) d face

-- d, f d, and so on, up to the last before this end, and no more than so many
abbrev pub until : (ℕ → ℕ) → ℕ → ℕ → ℕ → List ℕ
until f end zero d = []
until f end (suc most) d = d ∷ (if f d == end then [] else until f end most (f d))

-- what a walk around a face has left: the darts from the next one on, up to the last before the first one
abbrev pub darts_left : List ℕ → ℕ → Option ℕ → List ℕ
darts_left sigma first None = []
darts_left sigma first (Some next) = until (face_step sigma) first (length sigma) next

-- some more steps, fewer than so many, lead from the dart to this end
pub record LeadsBack (f : ℕ → ℕ) (end most d : ℕ) : Type 0 where
  pub fewer : ℕ
  pub few : fewer < most
  pub leads : repeated f (suc fewer) d ≡ end

-- what a walk keeps: from the next dart there is a way to the first one
pub record IsFaceWalk (sigma : List ℕ) (first : ℕ) (next : Option ℕ) : Type 0 where
  pub even : length sigma % 2 ≡ 0
  pub permutes : IsPermutationBelow (length sigma) (face_step sigma)
  pub within : (d : ℕ) → next ≡ Some d → d < length sigma
  pub back : (d : ℕ) → next ≡ Some d → LeadsBack (face_step sigma) first (length sigma) d
