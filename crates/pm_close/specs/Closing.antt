-- What closing a tree answers.
use Rattle.std.specs.Prelude.{◌≡◌, ℕ, List, Result, Ok, Err, ⊤}
use Rattle.pm_trees.specs.Blossoming.{IsBlossoming}
use Rattle.pm_trees.specs.Word.{contour}
use Rattle.pm_match.specs.Pair.{IsPair, IsBalanced}
use Rattle.pm_map.specs.Rotation.{RotationSystem}
use Rattle.pm_close.specs.declared.closing.Closed.{Closed}
use Rattle.pm_close.specs.declared.closing.CloseRefusal.{CloseRefusal}
use Rattle.pm_close.specs.declared.closing.CloseRefusal.TheVariants.{Memory, NotBalanced}
use Rattle.pm_close.specs.Closure.{IsClosed}
use Rattle.pm_close.specs.Level.{AreLevels}

-- what a balanced contour closes to: the map is its closure, and the levels are those of the darts of that closure
pub record ClosesTo (places : List ℕ) (closed : Closed) : Type 0 where
  pub balanced : IsBalanced places
  pub is_closed : IsClosed places closed.map
  pub levels : AreLevels places is_closed.closure closed.levels

-- What a balanced tree closes to, or the bud that the plant is in a pair with. Want of memory may come at any tree.
abbrev pub IsClosing : List ℕ → Result Closed CloseRefusal → Type 0
IsClosing word (Ok closed) = ClosesTo (contour word) closed
IsClosing word (Err (NotBalanced bud)) = IsPair (contour word) bud 0
IsClosing word (Err Memory) = ⊤

-- the map alone that a balanced contour closes to
pub record ClosesToMap (places : List ℕ) (map : RotationSystem) : Type 0 where
  pub balanced : IsBalanced places
  pub is_closed : IsClosed places map

-- The same without levels.
abbrev pub IsMapClosing : List ℕ → Result RotationSystem CloseRefusal → Type 0
IsMapClosing word (Ok map) = ClosesToMap (contour word) map
IsMapClosing word (Err (NotBalanced bud)) = IsPair (contour word) bud 0
IsMapClosing word (Err Memory) = ⊤

-- a tree has one answer, but for want of memory
abbrev pub ClosingHasOneAnswer : Type 0
ClosingHasOneAnswer =
    (word : List ℕ) (first second : Result Closed CloseRefusal) → IsBlossoming word → IsClosing word first → IsClosing word second
    → (first ≡ Err Memory → ⊥) → (second ≡ Err Memory → ⊥) → first ≡ second
