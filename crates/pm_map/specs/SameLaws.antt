-- To be the same, up to a renumbering of the darts, is an equivalence of structures; each structure is the same as that of
-- a rotation and a root.
use Rattle.pm_map.specs.Structure.{Structure, IsStructure, Same}
use Rattle.pm_map.specs.Rotation.{RotationSystem, structure_of}

abbrev pub SameIsReflexive : Type 0
SameIsReflexive = (a : Structure) → Same a a

abbrev pub SameIsTransitive : Type 0
SameIsTransitive = (a b c : Structure) → Same a b → Same b c → Same a c

abbrev pub SameIsSymmetric : Type 0
SameIsSymmetric = (a b : Structure) → IsStructure a → Same a b → Same b a

-- whatever the twins of a structure are, some renumbering makes of them the darts 2k and 2k+1
abbrev pub EachStructureIsARotation : Type 0
EachStructureIsARotation = (s : Structure) → IsStructure s → (map : RotationSystem) × IsStructure (structure_of map) × Same s (structure_of map)

-- what holds of a structure holds of each that is the same
abbrev pub IsKept : (Structure → Type 0) → Type 0
IsKept holds = (a b : Structure) → IsStructure a → IsStructure b → Same a b → holds a → holds b
