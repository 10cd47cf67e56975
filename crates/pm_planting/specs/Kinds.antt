-- Plane trees with a bud pattern at each node as blossoming trees (Schaeffer 1997), by the kinds of their objects in preorder.
use Rattle.std.specs.Prelude.{◌≡◌, ℕ, ◌-◌, ◌*◌, ◌<◌, ◌==◌, ℤ, List, [], ◌∷◌, ◌++◌, length, map, if◌then◌else◌, ⊤}
use Rattle.pm_trees.specs.declared.letters.TheConstants.{LEAF, BUD}
use Rattle.pm_brackets.specs.declared.letters.TheConstants.{OPEN, CLOSE}
use Rattle.pm_trees.specs.Binomial.{choose}
use Rattle.pm_trees.specs.BudPattern.{HasRank, IsHalfDegree}
use Rattle.pm_words.specs.Plane.{letter_of}
use Rattle.pm_planting.specs.declared.kind.Kind.{Kind}
use Rattle.pm_planting.specs.declared.kind.Kind.TheVariants.{Leaf, Node}

-- a leaf, or a node of a half degree that it may have, with the rank of one of its patterns
abbrev pub IsKind : Kind → Type 0
IsKind Leaf = ⊤
IsKind (Node half rank) = IsHalfDegree half × (rank < choose (2 * half - 1) half)

-- a node whose entries are this pattern
abbrev pub HasKind : Kind → List ℕ → Type 0
HasKind Leaf pattern = ⊥
HasKind (Node half rank) pattern = HasRank half pattern rank

-- half of the degree of a node, which is how many children it has; a leaf has none
abbrev pub half_of : Kind → ℕ
half_of Leaf = 0
half_of (Node half rank) = half

abbrev pub halves_in : List Kind → List ℕ
halves_in kinds = map half_of kinds

-- the word of the plane tree: of each object how many children it has, less one
abbrev pub letters_in : List Kind → List ℤ
letters_in kinds = map (λ kind. letter_of (half_of kind)) kinds

-- the pattern with its slots filled by the texts, one after another; its buds stay
abbrev pub filled : List ℕ → List (List ℕ) → List ℕ
filled [] texts = []
filled (x ∷ pattern) [] = if x == BUD then BUD ∷ filled pattern [] else filled pattern []
filled (x ∷ pattern) (text ∷ texts) =
    if x == BUD then BUD ∷ filled pattern (text ∷ texts) else text ++ filled pattern texts

-- Plane trees side by side, with the kinds of their objects in preorder and the text of each: of a leaf `l`, and of a node its
-- edge, and the entries of its pattern, with as many trees in its slots as its half degree, one after another.
pub data AreSides : List Kind → List (List ℕ) → Type 0 where
  none : AreSides [] []
  leaf : (later : List Kind) (texts : List (List ℕ)) → AreSides later texts → AreSides (Leaf ∷ later) ((LEAF ∷ []) ∷ texts)
  node : (kind : Kind) (under later : List Kind) (pattern : List ℕ) (sides texts : List (List ℕ)) → HasKind kind pattern → AreSides under sides
      → length sides ≡ half_of kind → AreSides later texts → AreSides (kind ∷ under ++ later) ((OPEN ∷ filled pattern sides ++ CLOSE ∷ []) ∷ texts)

-- the word of the blossoming tree whose objects in preorder are of these kinds, planted above the first: the text of the one
-- tree without its edge
abbrev pub IsWordOfKinds : List Kind → List ℕ → Type 0
IsWordOfKinds kinds word = AreSides kinds ((OPEN ∷ word ++ CLOSE ∷ []) ∷ [])
