-- What is known while the parents of the faces are told. Marked darts are those whose face is told.
use Rattle.std.specs.Prelude.{◌≡◌, ℕ, ◌<◌, false, List, ◌++◌, Bool, length, slice_index, slice_index_or, Contains}
use Rattle.pm_perm.specs.Least.{IsLeast}
use Rattle.pm_map.specs.Structure.{Structure}
use Rattle.pm_map.specs.FaceDistance.{AreInOneFace}
use Rattle.pm_map.specs.FaceWalk.{IsFaceFrom}
use Rattle.pm_map.specs.steps.Marks.{IsMarked}
use Rattle.pm_reach.specs.Layers.{LeadsNearer}

-- these darts are marked and have `dart` as their parent, and no others have changed
pub record TellsDarts (dart : ℕ) (darts : List ℕ) (told : List Bool) (parents : List ℕ) (told_after : List Bool) (parents_after : List ℕ) : Type 0 where
  pub told_size : length told_after ≡ length told
  pub parents_size : length parents_after ≡ length parents
  pub marked : (d : ℕ) → Contains darts d → IsMarked told_after d
  pub parent : (d : ℕ) → Contains darts d → slice_index parents_after d ≡ dart
  pub mark_stays : (d : ℕ) → (Contains darts d → ⊥) → slice_index_or told_after d false ≡ slice_index_or told d false
  pub parent_stays : (d : ℕ) → (Contains darts d → ⊥) → slice_index parents_after d ≡ slice_index parents d

-- Around the face of `dart` this is done to all darts but those that are still to come.
pub record TellsAround (s : Structure) (dart : ℕ) (rest : List ℕ) (told : List Bool) (parents : List ℕ) (told_after : List Bool) (parents_after : List ℕ) : Type 0 where
  pub face : List ℕ
  pub around : IsFaceFrom s dart face
  pub done : List ℕ
  pub whole : done ++ rest ≡ face
  pub tells : TellsDarts dart done told parents told_after parents_after

-- this is done to the darts of the face of `dart`
pub record TellsFace (s : Structure) (dart : ℕ) (told : List Bool) (parents : List ℕ) (told_after : List Bool) (parents_after : List ℕ) : Type 0 where
  pub face : List ℕ
  pub held : (d : ℕ) → AreInOneFace s dart d → Contains face d
  pub only : (d : ℕ) → Contains face d → AreInOneFace s dart d
  pub tells : TellsDarts dart face told parents told_after parents_after

-- All darts below the bound were tried: a face is told where one of them leads nearer, with the least such dart as parent,
-- and the darts of the others have the root as parent.
pub record IsTelling (s : Structure) (told : List Bool) (parents : List ℕ) (bound : ℕ) : Type 0 where
  pub told_size : length told ≡ s.darts
  pub parents_size : length parents ≡ s.darts
  pub known : (d : ℕ) → d < s.darts → IsMarked told d → IsLeast bound (λ e. LeadsNearer s d e → ⊥) (LeadsNearer s d) (slice_index parents d)
  pub none : (d : ℕ) → d < s.darts → slice_index_or told d false ≡ false → (e : ℕ) → e < bound → LeadsNearer s d e → ⊥
  pub root : (d : ℕ) → d < s.darts → slice_index_or told d false ≡ false → slice_index parents d ≡ s.root
