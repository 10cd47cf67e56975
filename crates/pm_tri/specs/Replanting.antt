-- Replanting: the same plane tree, planted at another of its stems, and its laws. Stems are numbered from 0 along the contour, and
-- stem 0 is the plant.
use Rattle.std.specs.Prelude.{◌≡◌, ℕ, ◌*◌, ◌<◌, List, length}
use Rattle.pm_brackets.specs.Ring.{IsReplantedAt, number_after, place_from}
use Rattle.pm_brackets.specs.Word.{IsLetterAt, count}
use Rattle.pm_tri.specs.declared.letters.TheConstants.{STEM}
use Rattle.pm_tri.specs.StemTree.{IsStemTree, contour, nodes}

-- how many stems a tree has, the plant counted
abbrev pub all_stems : List ℕ → ℕ
all_stems word = count STEM (contour word)

-- twice as many as it has nodes
abbrev pub StemsAreTwiceNodes : Type 0
StemsAreTwiceNodes = (word : List ℕ) → IsStemTree word → all_stems word ≡ 2 * nodes word

-- the word of the tree planted at the stem of this number
abbrev pub IsReplanted : List ℕ → ℕ → List ℕ → Type 0
IsReplanted word stem replanted = IsReplantedAt STEM word stem replanted

-- a stem tree with as many letters, stems and nodes
pub record IsAlike (word other : List ℕ) : Type 0 where
  pub stem_tree : IsStemTree other
  pub letters : length other ≡ length word
  pub stems_are : all_stems other ≡ all_stems word
  pub nodes_are : nodes other ≡ nodes word

-- a stem tree can be planted at each of its stems
abbrev pub EachStemIsReplanted : Type 0
EachStemIsReplanted = (word : List ℕ) (stem : ℕ) → IsStemTree word → stem < 2 * nodes word → (replanted : List ℕ) × IsReplanted word stem replanted

-- in one way
abbrev pub ReplantedIsUnique : Type 0
ReplantedIsUnique = (word : List ℕ) (stem : ℕ) (one other : List ℕ) → IsStemTree word → IsReplanted word stem one → IsReplanted word stem other → one ≡ other

-- and is a stem tree alike
abbrev pub ReplantedIsAlike : Type 0
ReplantedIsAlike = (word : List ℕ) (stem : ℕ) (replanted : List ℕ) → IsStemTree word → IsReplanted word stem replanted → IsAlike word replanted

-- each stem is counted from the new plant on: the stem at a place of the new contour, by its number at its old place
abbrev pub StemsAreTurned : Type 0
StemsAreTurned = (word : List ℕ) (stem : ℕ) (replanted : List ℕ) → IsStemTree word → (r : IsReplanted word stem replanted)
    → (number place : ℕ) → place < length (contour word) → IsLetterAt STEM (contour word) number (place_from (contour word) r.start place)
    → IsLetterAt STEM (contour replanted) (number_after (all_stems word) stem number) place

-- the old plant gets the number that leads back: planting there gives the old word
abbrev pub ReplantingIsUndone : Type 0
ReplantingIsUndone = (word : List ℕ) (stem : ℕ) (replanted : List ℕ) → IsStemTree word → IsReplanted word stem replanted
    → IsReplanted replanted (number_after (all_stems word) stem 0) word
