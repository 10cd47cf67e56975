-- The laws of face distances.
use Rattle.std.specs.Prelude.{ℕ, ◌<◌, ◌↔◌}
use Rattle.pm_map.specs.Structure.{Structure, IsStructure, IsConnected, CarriesTo}
use Rattle.pm_map.specs.FaceDistance.{IsFaceDistance, AreFaceLevels}

-- levels of the faces are the distances from the root's face
abbrev pub LevelsAreDistances : Type 0
LevelsAreDistances = (s : Structure) (level : ℕ → ℕ) → IsStructure s
    → (AreFaceLevels s level ↔ ((d : ℕ) → d < s.darts → IsFaceDistance s s.root d (level d)))

-- in a connected structure each face has a distance from the root's face
abbrev pub EachFaceHasDistance : Type 0
EachFaceHasDistance = (s : Structure) → IsStructure s → IsConnected s
    → (level : ℕ → ℕ) × ((d : ℕ) → d < s.darts → IsFaceDistance s s.root d (level d))

-- a renumbering keeps the distances
abbrev pub DistancesAreCarried : Type 0
DistancesAreCarried = (a b : Structure) (rename : ℕ → ℕ) → IsStructure a → IsStructure b → CarriesTo rename a b
    → (d e distance : ℕ) → d < a.darts → e < a.darts → IsFaceDistance a d e distance → IsFaceDistance b (rename d) (rename e) distance

-- a face is as far from another as that from it
abbrev pub DistanceIsSymmetric : Type 0
DistanceIsSymmetric = (s : Structure) (d e distance : ℕ) → IsStructure s → d < s.darts → e < s.darts → IsFaceDistance s d e distance → IsFaceDistance s e d distance
