-- The kinds of trees that are closed to maps: which words are theirs, what a word closes to, and the first rule that it breaks.
use Rattle.std.specs.Prelude.{ℕ, List, codes}
use Rattle.pm_trees.specs.Word.{IsInOrder, contour}
use Rattle.pm_trees.specs.Blossoming.{IsBlossoming}
use Rattle.pm_trees.specs.Reading.{IsTooLong, HasBadDegree, HasBadBuds}
use Rattle.pm_match.specs.Pair.{IsPair, IsBalanced}
use Rattle.pm_map.specs.Rotation.{RotationSystem, structure_of}
use Rattle.pm_close.specs.Closure.{IsClosed}
use Rattle.pm_tri.specs.Balance.{IsFollowing}
use Rattle.pm_tri.specs.Reading as stem_reading
use Rattle.pm_tri.specs.Runs as runs
use Rattle.pm_tri.specs.StemTree as stem_tree
use Rattle.pm_triclose.specs.Closure.{IsStemClosure}
use Rattle.pm_cli.specs.declared.close.Trees.{Trees}
use Rattle.pm_cli.specs.declared.close.Trees.TheVariants.{Blossoming, Stem}
use Rattle.pm_cli.specs.declared.refusal.Limit.TheVariants.{Letters}
use Rattle.pm_cli.specs.declared.refusal.Refusal.{Refusal}
use Rattle.pm_cli.specs.declared.refusal.Refusal.TheVariants.{Limited, Tree}
use Rattle.pm_cli.specs.declared.refusal.TreeRule.TheVariants.{Degree, Buds, Matched, Stems, Closes, Follows}

-- a kind of trees: the words whose text is in order, the maps that such a word closes to, and the first rule that it breaks
pub record TreeKind : Type 1 where
  pub is_word : List ℕ → Type 0
  pub closes : List ℕ → RotationSystem → Type 0
  pub refuses : List ℕ → Refusal → Type 0

-- the map is the closure of the balanced blossoming tree with this word
pub record ClosesBlossoming (word : List ℕ) (map : RotationSystem) : Type 0 where
  pub blossoming : IsBlossoming word
  pub balanced : IsBalanced (contour word)
  pub is_closed : IsClosed (contour word) map

-- the rules of blossoming trees, and then that of their balance: the plant is in a pair with the bud
pub data RefusesBlossoming (word : List ℕ) : Refusal → Type 0 where
  too_many : (letters : ℕ) → IsTooLong word letters → RefusesBlossoming word (Limited (Letters letters))
  degree : (place : ℕ) → HasBadDegree word place → RefusesBlossoming word (Tree (Degree place))
  buds : (place : ℕ) → HasBadBuds word place → RefusesBlossoming word (Tree (Buds place))
  matched : (bud : ℕ) → IsBlossoming word → IsPair (contour word) bud 0 → RefusesBlossoming word (Tree (Matched bud))

-- the map is the closure of the balanced stem tree with this word
pub record ClosesStems (word : List ℕ) (map : RotationSystem) : Type 0 where
  pub tree : stem_tree.IsStemTree word
  pub balanced : runs.IsBalanced (stem_tree.contour word)
  pub is_closed : IsStemClosure (stem_tree.contour word) (structure_of map)

-- the rules of stem trees, and then those of their balance: the plant closes at the side, or it doesn't directly follow the free
-- stem before it
pub data RefusesStems (word : List ℕ) : Refusal → Type 0 where
  too_long : (letters : ℕ) → stem_reading.IsTooLong word letters → RefusesStems word (Limited (Letters letters))
  stems : (place : ℕ) → stem_reading.HasBadStems word place → RefusesStems word (Tree (Stems place))
  closes : (side : ℕ) → stem_tree.IsStemTree word → runs.IsClosing (stem_tree.contour word) 0 side → RefusesStems word (Tree (Closes side))
  follows : (stem : ℕ) → stem_tree.IsStemTree word → IsFollowing (stem_tree.contour word) stem → RefusesStems word (Tree (Follows stem))

abbrev pub blossoming_trees : TreeKind
blossoming_trees = record { is_word = IsInOrder; closes = ClosesBlossoming; refuses = RefusesBlossoming }

abbrev pub stem_trees : TreeKind
stem_trees = record { is_word = stem_tree.IsInOrder; closes = ClosesStems; refuses = RefusesStems }

abbrev pub kind_of : Trees → TreeKind
kind_of Blossoming = blossoming_trees
kind_of Stem = stem_trees

-- the words of the kinds
abbrev pub trees_word : Trees → List ℕ
trees_word Blossoming = codes "eulerian"
trees_word Stem = codes "tri"
