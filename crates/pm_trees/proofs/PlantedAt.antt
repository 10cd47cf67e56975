-- Trees that are planted anew at one of two marked leaves: they stay trees alike, and what holds of words that are planted anew
-- holds of them.
use Rattle.std.proofs.Common.{◌≡◌, ℕ, ◌<◌, List, arith}
use Rattle.pm_trees.specs.declared.letters.TheConstants.{LEAF}
use Rattle.pm_trees.specs.Word.{contour}
use Rattle.pm_trees.specs.Blossoming.{IsBlossoming, leaves}
use Rattle.pm_trees.specs.Leaves.{IsLeafAt}
use Rattle.pm_brackets.specs.PlantedAt.{AreTwo, IsChosen}
use Rattle.pm_trees.specs.PlantedAt.{AreTwoMarks, IsPlantedAt}
use Rattle.pm_trees.specs.Replanted.{IsReplanted}
use Rattle.pm_trees.specs.Replanting.{IsAlike, leaf_after}
use Rattle.pm_brackets.proofs.PlantedAt as words
use Rattle.pm_trees.proofs.FourLetters.{leaf_is_other}
use Rattle.pm_trees.proofs.Replants.{replanted_alike}

-- a tree that is planted anew is alike
pub anew_alike : {chosen : List ℕ → ℕ → Type 0} (word : List ℕ) (free : ℕ) (turned : List ℕ) (old : ℕ) → IsBlossoming word → IsPlantedAt chosen word free turned old → IsAlike word turned
anew_alike word free turned old tree a = replanted_alike word a.start_number turned tree a.is_replanted

pub anew_blossoms : {chosen : List ℕ → ℕ → Type 0} (word : List ℕ) (free : ℕ) (turned : List ℕ) (old : ℕ) → IsBlossoming word → IsPlantedAt chosen word free turned old → IsBlossoming turned
anew_blossoms word free turned old tree a = (anew_alike word free turned old tree a).blossoming

-- its plant is marked
pub plant_is_marked : (marked : List ℕ → ℕ → Type 0) → AreTwoMarks marked → (word : List ℕ) (leaf place : ℕ) (turned : List ℕ) → IsBlossoming word → marked (contour word) place → IsLeafAt (contour word) leaf place → IsReplanted word leaf turned → marked (contour turned) 0
plant_is_marked marked marks word leaf place turned tree is numbered r = words.plant_is_marked LEAF leaf_is_other (omega arith) IsBlossoming marked marks word leaf place turned tree is numbered r

-- a tree is planted anew in one way
pub one_anew : (chosen : List ℕ → ℕ → Type 0) (word : List ℕ) (free : ℕ) (one other : List ℕ) (a b : ℕ) → IsBlossoming word → AreTwo (chosen (contour word)) → IsPlantedAt chosen word free one a → IsPlantedAt chosen word free other b → (other ≡ one) × (b ≡ a)
one_anew chosen word free one other a b tree two x y = words.one_anew LEAF leaf_is_other (omega arith) chosen word free one other a b tree.in_order.matched two x y

-- the tree planted anew, and the number of its old plant, tell the tree and its chosen leaf
pub planted_anew_once : (chosen : List ℕ → ℕ → Type 0) (word other : List ℕ) (b c : ℕ) (turned : List ℕ) (old : ℕ) → IsBlossoming word → IsBlossoming other → IsPlantedAt chosen word b turned old → IsPlantedAt chosen other c turned old → (word ≡ other) × (b ≡ c)
planted_anew_once chosen word other b c turned old tree other_tree x y =
    words.planted_anew_once LEAF leaf_is_other (omega arith) chosen word other b c turned old tree.in_order.matched other_tree.in_order.matched x y

-- the old plant of a tree that is planted at a chosen leaf has the number that planting gives to leaf 0
pub anew_from : (chosen : List ℕ → ℕ → Type 0) (word : List ℕ) (number leaf place : ℕ) (turned : List ℕ) → IsBlossoming word → IsChosen (chosen (contour word)) number place → IsLeafAt (contour word) leaf place
    → IsReplanted word leaf turned → IsPlantedAt chosen word number turned (leaf_after word leaf 0)
anew_from chosen word number leaf place turned tree is numbered r = words.anew_from LEAF leaf_is_other (omega arith) chosen word number leaf place turned tree.in_order.matched is numbered r

-- a tree replanted at one of its leaves, planted anew at a chosen leaf that is its plant from before, is as it was
pub anew_back : (chosen : List ℕ → ℕ → Type 0) (turned : List ℕ) (old : ℕ) (word : List ℕ) (free place : ℕ) → IsBlossoming turned → old < leaves turned → IsReplanted turned old word
    → IsLeafAt (contour word) (leaf_after turned old 0) place → IsChosen (chosen (contour word)) free place → IsPlantedAt chosen word free turned old
anew_back chosen turned old word free place tree few r numbered is = words.anew_back LEAF leaf_is_other (omega arith) chosen turned old word free place tree.in_order.matched few r numbered is
