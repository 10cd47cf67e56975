-- The level of a place of the contour (Schaeffer 1997): the sum over the places before it, where the plant and each bud
-- count +1, each other leaf -1, and brackets nothing.
use Rattle.std.specs.Prelude.{◌≡◌, ℕ, suc, ◌+◌, ◌<◌, List, length, slice_index, take, drop}
use Rattle.pm_trees.specs.declared.letters.TheConstants.{LEAF, BUD}
use Rattle.pm_brackets.specs.Word.{count}
use Rattle.pm_map.specs.Structure.{Structure}
use Rattle.pm_map.specs.EdgeNumbers.{dart_of}

-- The level of place p. Nothing stands before the plant. Before each other place stand the plant, buds and other leaves.
pub record IsLevel (places : List ℕ) (p level : ℕ) : Type 0 where
  pub plant : p ≡ 0 → level ≡ 0
  pub other : 0 < p → level + count LEAF (drop 1 (take p places)) ≡ suc (count BUD (take p places))

-- entry d of the list is the level of the place that is dart d of this closure
pub record AreLevels (places : List ℕ) (closure : Structure) (levels : List ℕ) : Type 0 where
  pub as_long : length levels ≡ length places
  pub each : (p : ℕ) → p < length places → IsLevel places p (slice_index levels (dart_of closure.twin p))
