-- What is printed of a map is read again.
use Rattle.std.specs.Prelude.{ℕ, ◌*◌, ◌≤◌, List, ◌++◌, Option, Some, Ok, length}
use Rattle.pm_map.specs.Rotation.{RotationSystem, IsRootedMap}
use Rattle.pm_mapfile.specs.MapText.{IsMapText}
use Rattle.pm_mapfile.specs.MapFile.{IsResidue}
use Rattle.pm_mapfile.specs.Answers.{IsMapTextAnswer, IsMapFileAnswer, IsSampleFileAnswer}

-- a law: the text of a map within the limit, before anything, is answered by that map and the length of the text
abbrev pub MapTextIsReadAgain : Type 0
MapTextIsReadAgain = (m : RotationSystem) (limit : ℕ) (text rest : List ℕ) → IsRootedMap m → length m.sigma ≤ 2 * limit → IsMapText m text
    → IsMapTextAnswer (text ++ rest) limit (Ok (m, length text))

-- a law: the text of a map within the limit, and after it nothing or a residue line, is answered by that map and the
-- numbers of the line
abbrev pub MapFileIsReadAgain : Type 0
MapFileIsReadAgain = (m : RotationSystem) (limit : ℕ) (text rest : List ℕ) (residue : Option (List ℕ)) → IsRootedMap m → length m.sigma ≤ 2 * limit
    → IsMapText m text → IsResidue residue rest → IsMapFileAnswer (text ++ rest) limit (Ok (m, residue))

-- a law: the text of a map within the limit, and after it a residue line, is answered by that map and the numbers of the
-- line, where a sample file is read
abbrev pub SampleFileIsReadAgain : Type 0
SampleFileIsReadAgain = (m : RotationSystem) (limit : ℕ) (text rest residue : List ℕ) → IsRootedMap m → length m.sigma ≤ 2 * limit
    → IsMapText m text → IsResidue (Some residue) rest → IsSampleFileAnswer (text ++ rest) limit (Ok (m, residue))
