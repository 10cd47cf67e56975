-- The opening of a map (Schaeffer 1997): the balanced tree whose closure it is, up to the names of darts.
use Rattle.std.specs.Prelude.{◌≡◌, ℕ, List, Result, Ok, Err, ⊤}
use Rattle.pm_limits.specs.declared.TheConstants.{MAX_DEGREE}
use Rattle.pm_trees.specs.Word.{contour}
use Rattle.pm_trees.specs.Blossoming.{IsBlossoming}
use Rattle.pm_match.specs.Pair.{IsBalanced}
use Rattle.pm_map.specs.Structure.{Same}
use Rattle.pm_map.specs.Rotation.{RotationSystem, IsRootedMap, structure_of}
use Rattle.pm_map.specs.ClassRules.{IsLeastOther}
use Rattle.pm_map.specs.declared.admitted.Degrees.TheVariants.{EvenUpTo}
use Rattle.pm_close.specs.Closure.{IsClosed}
use Rattle.pm_open.specs.declared.opening.OpenRefusal.{OpenRefusal}
use Rattle.pm_open.specs.declared.opening.OpenRefusal.TheVariants.{Memory, Degree}

-- the word of a balanced tree whose closure is the same as the map
pub record IsOpening (map : RotationSystem) (word : List ℕ) : Type 0 where
  pub blossoming : IsBlossoming word
  pub balanced : IsBalanced (contour word)
  pub closure : RotationSystem
  pub is_closure : IsClosed (contour word) closure
  pub same : Same (structure_of map) (structure_of closure)

-- What a map is answered that is to be opened: its opening, or the least dart whose vertex has an odd degree or one above
-- the limit. Want of memory may come at any map.
abbrev pub IsOpenAnswer : RotationSystem → Result (List ℕ) OpenRefusal → Type 0
IsOpenAnswer map (Ok word) = IsOpening map word
IsOpenAnswer map (Err (Degree dart)) = IsLeastOther (structure_of map) (EvenUpTo MAX_DEGREE) dart
IsOpenAnswer map (Err Memory) = ⊤

-- a rooted map with a dart has one answer, but for want of memory
abbrev pub OpeningHasOneAnswer : Type 0
OpeningHasOneAnswer =
    (map : RotationSystem) (first second : Result (List ℕ) OpenRefusal) → IsRootedMap map → IsOpenAnswer map first → IsOpenAnswer map second
    → (first ≡ Err Memory → ⊥) → (second ≡ Err Memory → ⊥) → first ≡ second
