-- What the reading of a stem tree's word answers.
use Rattle.std.specs.Prelude.{◌≡◌, ℕ, ◌-◌, ◌*◌, ◌/◌, ◌<◌, List, length, Result, Ok, Err, ⊤}
use Rattle.pm_limits.specs.declared.TheConstants.{MAX_EDGES}
use Rattle.pm_brackets.specs.First.{IsFirst}
use Rattle.pm_tri.specs.declared.tree.TriTree.{TriTree}
use Rattle.pm_tri.specs.declared.tree.TriTreeRefusal.{TriTreeRefusal}
use Rattle.pm_tri.specs.declared.tree.TriTreeRefusal.TheVariants.{Memory, Text, TooMany, Stems}
use Rattle.pm_tri.specs.StemTree.{BreaksStems, IsFault, IsInOrder, IsShort, IsStemTree, contour}

-- more letters than a tree may have, and how many
pub record IsTooLong (word : List ℕ) (have : ℕ) : Type 0 where
  pub in_order : IsInOrder word
  pub counted : have ≡ length word
  pub long : 4 * (MAX_EDGES / 3) - 3 < length word

-- the least node that hasn't two stems
pub record HasBadStems (word : List ℕ) (node : ℕ) : Type 0 where
  pub in_order : IsInOrder word
  pub short : IsShort word
  pub first : IsFirst (BreaksStems (contour word)) node

-- The answer to a word: the tree, or the first rule that it breaks. Want of memory may come at any word.
abbrev pub IsAnswer : List ℕ → Result TriTree TriTreeRefusal → Type 0
IsAnswer word (Ok tree) = (tree ≡ word) × IsStemTree word
IsAnswer word (Err (Text place)) = IsFirst (IsFault (contour word)) place
IsAnswer word (Err (TooMany letters)) = IsTooLong word letters
IsAnswer word (Err (Stems place)) = HasBadStems word place
IsAnswer word (Err Memory) = ⊤

-- A word has one answer, but for want of memory: so each refusal comes exactly where its rule is the first that fails.
abbrev pub HasOneAnswer : Type 0
HasOneAnswer =
    (word : List ℕ) (first second : Result TriTree TriTreeRefusal) → IsAnswer word first → IsAnswer word second
    → (first ≡ Err Memory → ⊥) → (second ≡ Err Memory → ⊥) → first ≡ second
