-- Laws of replanting.
use Rattle.std.specs.Prelude.{◌≡◌, ℕ, ◌<◌, List, length}
use Rattle.pm_trees.specs.Word.{contour}
use Rattle.pm_trees.specs.Blossoming.{IsBlossoming, nodes, leaves}
use Rattle.pm_trees.specs.Leaves.{IsLeafAt}
use Rattle.pm_trees.specs.Degrees.{IsProfileOf, nodes_of}
use Rattle.pm_trees.specs.Replanted.{IsReplanted}
use Rattle.pm_brackets.specs.Ring.{number_after, place_from}

-- the number that a leaf gets where the leaf of another number is made the plant
abbrev pub leaf_after : List ℕ → ℕ → ℕ → ℕ
leaf_after word leaf number = number_after (leaves word) leaf number

-- a blossoming tree with as many letters, leaves and nodes, and of each degree as many nodes
pub record IsAlike (word other : List ℕ) : Type 0 where
  pub blossoming : IsBlossoming other
  pub letters : length other ≡ length word
  pub leaves_are : leaves other ≡ leaves word
  pub nodes_are : nodes other ≡ nodes word
  pub degrees : (d : ℕ) → nodes_of other d ≡ nodes_of word d

-- a blossoming tree can be planted at each of its leaves
abbrev pub EachLeafIsReplanted : Type 0
EachLeafIsReplanted = (word : List ℕ) (leaf : ℕ) → IsBlossoming word → leaf < leaves word → (replanted : List ℕ) × IsReplanted word leaf replanted

-- in one way
abbrev pub ReplantedIsUnique : Type 0
ReplantedIsUnique = (word : List ℕ) (leaf : ℕ) (one other : List ℕ) → IsBlossoming word → IsReplanted word leaf one → IsReplanted word leaf other → one ≡ other

-- and is a blossoming tree alike
abbrev pub ReplantedIsAlike : Type 0
ReplantedIsAlike = (word : List ℕ) (leaf : ℕ) (replanted : List ℕ) → IsBlossoming word → IsReplanted word leaf replanted → IsAlike word replanted

-- each leaf is counted from the new plant on: the leaf at a place of the new contour, by its number at its old place
abbrev pub LeavesAreTurned : Type 0
LeavesAreTurned = (word : List ℕ) (leaf : ℕ) (replanted : List ℕ) → IsBlossoming word → (r : IsReplanted word leaf replanted)
    → (number place : ℕ) → place < length (contour word) → IsLeafAt (contour word) number (place_from (contour word) r.start place)
    → IsLeafAt (contour replanted) (leaf_after word leaf number) place

-- the old plant gets the number that leads back: planting there gives the old word
abbrev pub ReplantingIsUndone : Type 0
ReplantingIsUndone = (word : List ℕ) (leaf : ℕ) (replanted : List ℕ) → IsBlossoming word → IsReplanted word leaf replanted
    → IsReplanted replanted (leaf_after word leaf 0) word

-- a tree has one profile
abbrev pub ProfileIsUnique : Type 0
ProfileIsUnique = (word : List ℕ) (one two : List (ℕ × ℕ)) → IsProfileOf word one → IsProfileOf word two → one ≡ two

-- and alike trees have the same
abbrev pub ProfileIsKept : Type 0
ProfileIsKept = (word other : List ℕ) (one two : List (ℕ × ℕ)) → IsAlike word other → IsProfileOf word one → IsProfileOf other two → one ≡ two
