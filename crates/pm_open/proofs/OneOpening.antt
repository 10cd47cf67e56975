-- There is one answer to a map that is to be opened.
use Rattle.std.proofs.Common.{ℕ, List, Ok, Err, refl, ap}
use Rattle.pm_limits.specs.declared.TheConstants.{MAX_DEGREE}
use Rattle.pm_map.specs.declared.admitted.Degrees.TheVariants.{EvenUpTo}
use Rattle.pm_map.specs.ClassRules.{IsLeastOther}
use Rattle.pm_map.specs.Rotation.{RotationSystem, IsRootedMap, structure_of}
use Rattle.pm_map.proofs.DegreeRules.{least_other_is_unique}
use Rattle.pm_open.specs.declared.opening.OpenRefusal.TheVariants.{Memory, Degree}
use Rattle.pm_open.specs.Opening.{IsOpening, OpeningHasOneAnswer}
use Rattle.pm_open.proofs.KeptByOpening.{opened_degrees}
use Rattle.pm_open.proofs.UniqueOpening.{one_opening}

-- a map that opens has no other degree
no_other : (map : RotationSystem) (word : List ℕ) (dart : ℕ) → IsRootedMap map → IsOpening map word → IsLeastOther (structure_of map) (EvenUpTo MAX_DEGREE) dart → ⊥
no_other map word dart rooted is other = other.breaks (opened_degrees map word rooted is dart other.within)

pub opens_once : OpeningHasOneAnswer
opens_once map (Ok one) (Ok other) rooted a b n m = ap Ok (one_opening map one other rooted a b)
opens_once map (Ok one) (Err (Degree dart)) rooted a b n m = absurd (no_other map one dart rooted a b)
opens_once map (Ok one) (Err Memory) rooted a b n m = absurd (m refl)
opens_once map (Err (Degree dart)) (Ok other) rooted a b n m = absurd (no_other map other dart rooted b a)
opens_once map (Err (Degree dart)) (Err (Degree other)) rooted a b n m = ap (λ (d : ℕ). Err (Degree d)) (least_other_is_unique (structure_of map) (EvenUpTo MAX_DEGREE) dart other a b)
opens_once map (Err (Degree dart)) (Err Memory) rooted a b n m = absurd (m refl)
opens_once map (Err Memory) second rooted a b n m = absurd (n refl)
