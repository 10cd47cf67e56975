-- How far the levels of the darts are written.
use Rattle.std.specs.Prelude.{◌≡◌, ℕ, suc, ◌+◌, ◌<◌, ◌≤◌, List, length, slice_index, take}
use Rattle.pm_trees.specs.declared.letters.TheConstants.{LEAF, BUD}
use Rattle.pm_brackets.specs.Word.{count}
use Rattle.pm_trees.specs.Word.{contour}
use Rattle.pm_close.specs.Level.{IsLevel}

-- no prefix of the word has more than one leaf more than buds
abbrev pub IsLow : List ℕ → Type 0
IsLow letters = (k : ℕ) → k ≤ length letters → count LEAF (take k letters) ≤ suc (count BUD (take k letters))

-- the places up to this one have the level at their darts, and the level behind this place is known
pub record IsLevelled (letters darts levels : List ℕ) (level place : ℕ) : Type 0 where
  pub as_long : length levels ≡ length darts
  pub next : level + count LEAF (take place letters) ≡ suc (count BUD (take place letters))
  pub each : (p : ℕ) → p < suc place → IsLevel (contour letters) p (slice_index levels (slice_index darts p))

-- each place has its level at its dart
pub record AreLevelsAt (letters darts levels : List ℕ) : Type 0 where
  pub as_long : length levels ≡ length darts
  pub each : (p : ℕ) → p < length darts → IsLevel (contour letters) p (slice_index levels (slice_index darts p))
