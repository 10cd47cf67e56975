-- How far a face is from another, over edges. A face is told by any of its darts.
use Rattle.std.specs.Prelude.{◌≡◌, ℕ, suc, ◌<◌, ◌≤◌, List, [], ◌∷◌, length}
use Rattle.pm_perm.specs.Cycles.{IsInCycle}
use Rattle.pm_map.specs.Structure.{Structure, face_next}

-- two darts are in one face: the second is met from the first around the face
abbrev pub AreInOneFace : Structure → ℕ → ℕ → Type 0
AreInOneFace s d e = IsInCycle (face_next s) d e

-- Darts that lead from the face of d to the face of e: the first is in the face of d, each one's twin is in the face of
-- the next, and the last one's twin is in the face of e. No darts lead from a face to itself.
abbrev pub LeadsOver : Structure → ℕ → ℕ → List ℕ → Type 0
LeadsOver s d e [] = AreInOneFace s d e
LeadsOver s d e (dart ∷ darts) = (dart < s.darts) × AreInOneFace s d dart × LeadsOver s (s.twin dart) e darts

-- the distance from the face of d to the face of e: the least number of darts that lead from the one to the other
pub record IsFaceDistance (s : Structure) (d e distance : ℕ) : Type 0 where
  pub over : List ℕ
  pub leads : LeadsOver s d e over
  pub counted : length over ≡ distance
  pub least : (others : List ℕ) → LeadsOver s d e others → distance ≤ length others

-- Levels of the faces, a number for each dart: the same around each face, 0 on the root's face and on no other, at most
-- one more or less across an edge, and on each other face some dart has a twin that is one lower.
pub record AreFaceLevels (s : Structure) (level : ℕ → ℕ) : Type 0 where
  pub around : (d : ℕ) → d < s.darts → level (face_next s d) ≡ level d
  pub root : 0 < s.darts → level s.root ≡ 0
  pub lowest : (d : ℕ) → d < s.darts → level d ≡ 0 → AreInOneFace s s.root d
  pub across : (d : ℕ) → d < s.darts → level (s.twin d) ≤ suc (level d)
  pub nearer : (d : ℕ) → d < s.darts → 0 < level d → (e : ℕ) × (e < s.darts) × AreInOneFace s d e × (suc (level (s.twin e)) ≡ level e)
