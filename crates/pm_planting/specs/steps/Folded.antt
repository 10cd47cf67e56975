-- A text read from its end on, where each pair of brackets is one entry of the node around it.
use Rattle.std.specs.Prelude.{◌≡◌, ℕ, ◌==◌, List, [], ◌∷◌, if◌then◌else◌}
use Rattle.pm_trees.specs.declared.letters.TheConstants.{LEAF, BUD}
use Rattle.pm_brackets.specs.declared.letters.TheConstants.{OPEN, CLOSE}
use Rattle.pm_trees.specs.declared.patterns.TheConstants.{SLOT}
use Rattle.pm_planting.specs.Kinds.{HasKind}
use Rattle.pm_planting.specs.declared.kind.Kind.{Kind}
use Rattle.pm_planting.specs.declared.kind.Kind.TheVariants.{Leaf}

-- what stands before the first closing bracket, and what stands behind it
abbrev pub prefix_of : List ℕ → List ℕ
prefix_of [] = []
prefix_of (x ∷ xs) = if x == CLOSE then [] else x ∷ prefix_of xs

abbrev pub behind : List ℕ → List ℕ
behind [] = []
behind (x ∷ xs) = if x == CLOSE then xs else behind xs

-- the entries and the closing brackets with one letter more before them
abbrev pub fold_letter : ℕ → List ℕ → List ℕ
fold_letter x entries =
    if x == OPEN then SLOT ∷ behind entries
    else (if x == CLOSE then CLOSE ∷ entries
    else (if x == BUD then BUD ∷ entries else SLOT ∷ entries))

-- the entries of the text's level, each a bud or a slot, and then the closing brackets that none opens in the text, each with
-- the entries behind it
abbrev pub folded : List ℕ → List ℕ
folded [] = []
folded (x ∷ xs) = fold_letter x (folded xs)

-- the kinds of the objects that begin in the text
pub data AreKindsAlong : List ℕ → List Kind → Type 0 where
  ended : AreKindsAlong [] []
  a_leaf : (x : ℕ) (xs : List ℕ) (kinds : List Kind) → x ≡ LEAF → AreKindsAlong xs kinds → AreKindsAlong (x ∷ xs) (Leaf ∷ kinds)
  a_node : (x : ℕ) (kind : Kind) (xs : List ℕ) (kinds : List Kind) → x ≡ OPEN → HasKind kind (prefix_of (folded xs)) → AreKindsAlong xs kinds → AreKindsAlong (x ∷ xs) (kind ∷ kinds)
  no_object : (x : ℕ) (xs : List ℕ) (kinds : List Kind) → (x ≡ LEAF → ⊥) → (x ≡ OPEN → ⊥) → AreKindsAlong xs kinds → AreKindsAlong (x ∷ xs) kinds
