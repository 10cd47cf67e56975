-- How a binary tree with bud patterns at its forks is a blossoming tree (Schaeffer 1997).
use Rattle.std.specs.Prelude.{◌≡◌, ℕ, suc, Bool, true, false, List, [], ◌∷◌, length}
use Rattle.pm_remy.specs.Tree.{Tree, leaves, shape_of}
use Rattle.pm_planting.specs.Kinds.{IsWordOfKinds}
use Rattle.pm_planting.specs.declared.kind.Kind.{Kind}
use Rattle.pm_planting.specs.declared.kind.Kind.TheVariants.{Leaf, Node}

-- The kinds of a shape's objects in preorder, where the forks, in preorder, have the patterns of these ranks, as many as there
-- are forks: a fork is a node of half degree 2, so of degree 4.
abbrev pub kinds_of_shape : List Bool → List ℕ → List Kind
kinds_of_shape [] ranks = []
kinds_of_shape (false ∷ nodes) ranks = Leaf ∷ kinds_of_shape nodes ranks
kinds_of_shape (true ∷ nodes) [] = []
kinds_of_shape (true ∷ nodes) (rank ∷ ranks) = Node 2 rank ∷ kinds_of_shape nodes ranks

-- the word of the blossoming tree of that shape, planted above the root fork, where the forks have the patterns of these ranks
pub record IsPlanted (tree : Tree) (ranks word : List ℕ) : Type 0 where
  pub forks : leaves tree ≡ suc (length ranks)
  pub of_kinds : IsWordOfKinds (kinds_of_shape (shape_of tree) ranks) word
