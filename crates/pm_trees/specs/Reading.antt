-- What the reading of a tree's word answers.
use Rattle.std.specs.Prelude.{◌≡◌, ℕ, ◌*◌, ◌≤◌, List, length, Result, Ok, Err, ⊤}
use Rattle.pm_limits.specs.declared.TheConstants.{MAX_EDGES}
use Rattle.pm_trees.specs.declared.tree.Tree.{Tree}
use Rattle.pm_trees.specs.declared.tree.TreeRefusal.{TreeRefusal}
use Rattle.pm_trees.specs.declared.tree.TreeRefusal.TheVariants.{Memory, Text, TooMany, Degree, Buds}
use Rattle.pm_brackets.specs.First.{IsFirst}
use Rattle.pm_trees.specs.Word.{IsInOrder, IsFault, contour}
use Rattle.pm_trees.specs.Node.{BreaksDegree, BreaksBuds}
use Rattle.pm_trees.specs.Blossoming.{IsBlossoming, IsShort, HasDegrees}

-- more letters than a tree may have, and how many
pub record IsTooLong (word : List ℕ) (have : ℕ) : Type 0 where
  pub in_order : IsInOrder word
  pub counted : have ≡ length word
  pub long : 2 * MAX_EDGES ≤ length word

-- the least node whose degree is odd or above the limit
pub record HasBadDegree (word : List ℕ) (node : ℕ) : Type 0 where
  pub in_order : IsInOrder word
  pub short : IsShort word
  pub first : IsFirst (BreaksDegree (contour word)) node

-- the least node with a wrong number of buds, where all degrees are right
pub record HasBadBuds (word : List ℕ) (node : ℕ) : Type 0 where
  pub in_order : IsInOrder word
  pub short : IsShort word
  pub degrees : HasDegrees word
  pub first : IsFirst (BreaksBuds (contour word)) node

-- The answer to a word: the tree, or the first rule that it breaks. Want of memory may come at any word.
abbrev pub IsAnswer : List ℕ → Result Tree TreeRefusal → Type 0
IsAnswer word (Ok tree) = (tree ≡ word) × IsBlossoming word
IsAnswer word (Err (Text place)) = IsFirst (IsFault (contour word)) place
IsAnswer word (Err (TooMany letters)) = IsTooLong word letters
IsAnswer word (Err (Degree place)) = HasBadDegree word place
IsAnswer word (Err (Buds place)) = HasBadBuds word place
IsAnswer word (Err Memory) = ⊤

-- A word has one answer, but for want of memory: so each refusal comes exactly where its rule is the first that fails.
abbrev pub HasOneAnswer : Type 0
HasOneAnswer =
    (word : List ℕ) (first second : Result Tree TreeRefusal) → IsAnswer word first → IsAnswer word second
    → (first ≡ Err Memory → ⊥) → (second ≡ Err Memory → ⊥) → first ≡ second
