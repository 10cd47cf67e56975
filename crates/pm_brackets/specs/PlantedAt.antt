-- A word planted anew at one of two marked places of its plant's letter, and the place of its old plant.
use Rattle.std.specs.Prelude.{◌≡◌, ◌⊎◌, ◌↔◌, ℕ, ◌<◌, ◌≤◌, List, ◌∷◌, length}
use Rattle.pm_brackets.specs.Word.{IsLetterAt}
use Rattle.pm_brackets.specs.Ring.{IsReplantedAt, place_from}

-- of two chosen places that of this number, counted from 0 along the places, beginning with the plant
pub data IsChosen (chosen : ℕ → Type 0) : ℕ → ℕ → Type 0 where
  first : (place : ℕ) → chosen place → ((other : ℕ) → chosen other → place ≤ other) → IsChosen chosen 0 place
  second : (place other : ℕ) → chosen place → chosen other → other < place → IsChosen chosen 1 place

-- the word planted at its chosen place of this number; its old plant is now the plant's letter numbered so
pub record IsPlantedAt (plant : ℕ) (chosen : List ℕ → ℕ → Type 0) (word : List ℕ) (number : ℕ) (turned : List ℕ) (old_plant : ℕ) : Type 0 where
  -- the chosen place, and its number among all places of the letter
  pub place : ℕ
  pub is_chosen : IsChosen (chosen (plant ∷ word)) number place
  pub start_number : ℕ
  pub numbered : IsLetterAt plant (plant ∷ word) start_number place
  pub is_replanted : IsReplantedAt plant word start_number turned
  -- where the old plant stands now, and how often its letter stands before it
  pub now : ℕ
  pub within : now < length (plant ∷ turned)
  pub is_old_plant : place_from (plant ∷ word) is_replanted.start now ≡ 0
  pub is_old_number : IsLetterAt plant (plant ∷ turned) old_plant now

-- exactly two places are chosen
pub record AreTwo (chosen : ℕ → Type 0) : Type 0 where
  pub earlier : ℕ
  pub later : ℕ
  pub in_order : earlier < later
  pub earlier_is : chosen earlier
  pub later_is : chosen later
  pub no_third : (place : ℕ) → chosen place → (place ≡ earlier) ⊎ (place ≡ later)

-- Marks of places, as of the free leaves of blossoming trees: in each tree exactly two places are marked, and the marks turn along
-- with the ring when the tree is planted anew.
pub record AreTwoMarks (plant : ℕ) (IsTree : List ℕ → Type 0) (marked : List ℕ → ℕ → Type 0) : Type 0 where
  pub two : (word : List ℕ) → IsTree word → AreTwo (marked (plant ∷ word))
  pub turned : (word : List ℕ) (number : ℕ) (replanted : List ℕ) → IsTree word → (r : IsReplantedAt plant word number replanted) → (place : ℕ) → place < length (plant ∷ word)
      → (marked (plant ∷ replanted) place ↔ marked (plant ∷ word) (place_from (plant ∷ word) r.start place))
