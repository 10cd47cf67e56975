-- The laws of where the stems of a stem tree close, and of the runs of those that don't.
use Rattle.std.specs.Prelude.{◌≡◌, ◌≢◌, ◌⊎◌, ◌↔◌, ℕ, ◌+◌, ◌<◌, ◌≤◌, List, IsTrue, slice_index}
use Rattle.pm_tri.specs.declared.letters.TheConstants.{STEM}
use Rattle.pm_tri.specs.Runs.{IsBalanced, IsClosing, IsFreeStem, IsInRun, IsRunStart}
use Rattle.pm_tri.specs.Sides.{is_side, sides, stem_steps}
use Rattle.pm_tri.specs.StemTree.{IsStemTree, contour}

-- each stem closes or is free
abbrev pub ClosesOrIsFree : Type 0
ClosesOrIsFree = (word : List ℕ) (p : ℕ) → IsStemTree word → slice_index (contour word) p ≡ STEM → ((q : ℕ) × IsClosing (contour word) p q) ⊎ IsFreeStem (contour word) p

-- where it closes is a side
abbrev pub ClosesAtSide : Type 0
ClosesAtSide = (word : List ℕ) (p q : ℕ) → IsStemTree word → IsClosing (contour word) p q → IsTrue (is_side (contour word) q)

-- and only one
abbrev pub ClosesOnce : Type 0
ClosesOnce = (word : List ℕ) (p q r : ℕ) → IsStemTree word → IsClosing (contour word) p q → IsClosing (contour word) p r → q ≡ r

-- in a balanced tree it comes later in the contour
abbrev pub ClosesAhead : Type 0
ClosesAhead = (word : List ℕ) (p q : ℕ) → IsStemTree word → IsBalanced (contour word) → IsClosing (contour word) p q → p < q

-- and the stems between the two close before, or there too
abbrev pub ClosesWithin : Type 0
ClosesWithin = (word : List ℕ) (p q inner : ℕ) → IsStemTree word → IsBalanced (contour word) → IsClosing (contour word) p q
    → p < inner → inner < q → slice_index (contour word) inner ≡ STEM → (r : ℕ) × (r ≤ q) × IsClosing (contour word) inner r

-- each free stem is in a run
abbrev pub IsInSomeRun : Type 0
IsInSomeRun = (word : List ℕ) (stem : ℕ) → IsStemTree word → IsFreeStem (contour word) stem → (start : ℕ) × IsInRun (contour word) start stem

-- and in no other
abbrev pub IsInOneRun : Type 0
IsInOneRun = (word : List ℕ) (start other stem : ℕ) → IsStemTree word → IsInRun (contour word) start stem → IsInRun (contour word) other stem → start ≡ other

-- in a balanced tree the free stems of the plant's run are those before which there are as many sides as stems
abbrev pub IsInPlantsRun : Type 0
IsInPlantsRun = (word : List ℕ) (stem : ℕ) → IsStemTree word → IsBalanced (contour word) → IsFreeStem (contour word) stem
    → (IsInRun (contour word) 0 stem ↔ (sides (contour word) 0 stem ≡ stem_steps (contour word) 0 stem))

-- and those of the other run are those before which there is one stem more
abbrev pub IsInOtherRun : Type 0
IsInOtherRun = (word : List ℕ) (start stem : ℕ) → IsStemTree word → IsBalanced (contour word) → IsRunStart (contour word) start → start ≢ 0 → IsFreeStem (contour word) stem
    → (IsInRun (contour word) start stem ↔ (stem_steps (contour word) 0 stem ≡ sides (contour word) 0 stem + 1))
