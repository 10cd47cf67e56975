-- The law of a class at one size: its valid lists of choices go one to one to the pairs of a map of the class and a valid
-- residue.
use Rattle.std.specs.Prelude.{ℕ, List}
use Rattle.pm_lists.specs.Valid.{IsValidList}
use Rattle.pm_map.specs.Rotation.{RotationSystem, IsRootedMap}
use Rattle.pm_map.specs.Canonical.{IsCanonical}
use Rattle.pm_class.specs.Sampling.{HasOneSample}
use Rattle.pm_class.specs.Unsampling.{HasOneList}

-- a map of the class and size, once among all that differ only in the names of darts
pub record IsMember (has : RotationSystem → Type 0) (map : RotationSystem) : Type 0 where
  pub rooted : IsRootedMap map
  pub canonical : IsCanonical map
  pub in_class : has map

-- a valid list, a map of the class and size, and a valid residue
pub record AreOfClass (bounds residues : List ℕ) (has : RotationSystem → Type 0) (choices : List ℕ) (map : RotationSystem) (residue : List ℕ) : Type 0 where
  pub valid : IsValidList choices bounds
  pub member : IsMember has map
  pub valid_residue : IsValidList residue residues

-- the choices give some map and residue
pub record Gives (samples : List ℕ → RotationSystem → List ℕ → Type 0) (choices : List ℕ) : Type 0 where
  pub map : RotationSystem
  pub residue : List ℕ
  pub given : samples choices map residue

-- some choices give the map and the residue
pub record IsGiven (samples : List ℕ → RotationSystem → List ℕ → Type 0) (map : RotationSystem) (residue : List ℕ) : Type 0 where
  pub choices : List ℕ
  pub given : samples choices map residue

pub record AreOneToOne (bounds residues : List ℕ) (has : RotationSystem → Type 0) (samples : List ℕ → RotationSystem → List ℕ → Type 0) : Type 0 where
  pub only : (choices : List ℕ) (map : RotationSystem) (residue : List ℕ) → samples choices map residue → AreOfClass bounds residues has choices map residue
  pub each_list : (choices : List ℕ) → IsValidList choices bounds → Gives samples choices
  pub each_pair : (map : RotationSystem) (residue : List ℕ) → IsMember has map → IsValidList residue residues → IsGiven samples map residue
  pub one_sample : HasOneSample samples
  pub one_list : HasOneList samples
