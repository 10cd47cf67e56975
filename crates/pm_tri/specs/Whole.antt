-- The whole tree of a balanced stem tree: its last letter, a stem, gives way to two nodes more, one the child of the other, so that
-- the stems of both runs close too, and each stem closes ahead.
use Rattle.std.specs.Prelude.{◌≡◌, ◌≢◌, ℕ, suc, ◌+◌, ◌-◌, ◌<◌, List, [], ◌∷◌, ◌++◌, length, take, slice_index}
use Rattle.pm_brackets.specs.declared.letters.TheConstants.{OPEN, CLOSE}
use Rattle.pm_tri.specs.declared.letters.TheConstants.{STEM}
use Rattle.pm_tri.specs.Runs.{IsBalanced, IsClosing, IsInRun}
use Rattle.pm_tri.specs.Sides.{sides, stem_steps}
use Rattle.pm_tri.specs.StemTree.{IsStemTree, contour}

abbrev pub whole : List ℕ → List ℕ
whole word = take (length word - 1) word ++ OPEN ∷ OPEN ∷ CLOSE ∷ CLOSE ∷ []

-- the stem at p closes ahead at q: the first place behind it at which the places behind p up to and with q have two more sides than
-- stems
pub record IsAhead (places : List ℕ) (p q : ℕ) : Type 0 where
  pub stem : slice_index places p ≡ STEM
  pub steps : ℕ
  pub is : p + steps ≡ q
  pub within : q < length places
  pub sum : sides places (suc p) steps ≡ stem_steps places (suc p) steps + 2
  pub is_first : (k : ℕ) → k < steps → sides places (suc p) k ≡ stem_steps places (suc p) k + 2 → ⊥

-- a stem that closes does so at the same side
abbrev pub ClosesAlike : Type 0
ClosesAlike = (word : List ℕ) (p q : ℕ) → IsStemTree word → IsBalanced (contour word) → IsClosing (contour word) p q → IsAhead (contour (whole word)) p q

-- those of the plant's run close at the second new side
abbrev pub PlantsRunCloses : Type 0
PlantsRunCloses = (word : List ℕ) (stem : ℕ) → IsStemTree word → IsBalanced (contour word) → IsInRun (contour word) 0 stem → IsAhead (contour (whole word)) stem (suc (length word))

-- those of the other run close at the first new side, but for the last stem, which has given way
abbrev pub OtherRunCloses : Type 0
OtherRunCloses = (word : List ℕ) (start stem : ℕ) → IsStemTree word → IsBalanced (contour word) → start ≢ 0 → IsInRun (contour word) start stem → stem < length word → IsAhead (contour (whole word)) stem (length word)
