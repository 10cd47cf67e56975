-- Where the stems of a stem tree close, its free stems and their runs (Poulalhon and Schaeffer 2006). Places are those of the
-- contour, read cyclically.
use Rattle.std.specs.Prelude.{◌≡◌, ◌⊎◌, ℕ, suc, ◌+◌, ◌%◌, ◌<◌, ◌≤◌, List, length, slice_index}
use Rattle.pm_tri.specs.declared.letters.TheConstants.{STEM}
use Rattle.pm_tri.specs.Sides.{sides, stem_steps}

-- the stem at p closes at q: q is the first place after p, within one turn, at which the sides less the stems of the places
-- after p up to and with q are 2
pub record IsClosing (places : List ℕ) (p q : ℕ) : Type 0 where
  pub stem : slice_index places p ≡ STEM
  -- so many places after p
  pub steps : ℕ
  pub in_turn : steps < length places
  pub meets : (p + steps) % length places ≡ q
  pub sum : sides places (suc p) steps ≡ stem_steps places (suc p) steps + 2
  pub is_first : (k : ℕ) → k < steps → sides places (suc p) k ≡ stem_steps places (suc p) k + 2 → ⊥

-- a stem that doesn't close
pub record IsFreeStem (places : List ℕ) (p : ℕ) : Type 0 where
  pub stem : slice_index places p ≡ STEM
  pub open_ended : (q : ℕ) → IsClosing places p q → ⊥

-- the free stem that is met last before a free stem, with so many places strictly between the two
pub record IsFreeBefore (places : List ℕ) (before apart stem : ℕ) : Type 0 where
  pub is_free : IsFreeStem places stem
  pub before_is : IsFreeStem places before
  pub in_turn : apart < length places
  pub meets : (suc before + apart) % length places ≡ stem
  pub none_between : (k : ℕ) → k < apart → IsFreeStem places ((suc before + k) % length places) → ⊥

-- a free stem that follows the free stem before it directly: strictly between the two there are as many sides as stems
pub record IsRunStart (places : List ℕ) (stem : ℕ) : Type 0 where
  pub before : ℕ
  pub apart : ℕ
  pub is_before : IsFreeBefore places before apart stem
  pub level : sides places (suc before) apart ≡ stem_steps places (suc before) apart

-- the stem belongs to the run that starts at another, or at itself: from the one up to the other no further run starts
pub record IsInRun (places : List ℕ) (start stem : ℕ) : Type 0 where
  pub starts : IsRunStart places start
  pub is_free : IsFreeStem places stem
  pub steps : ℕ
  pub in_turn : steps < length places
  pub meets : (start + steps) % length places ≡ stem
  pub no_other : (k : ℕ) → k < steps → IsRunStart places ((suc start + k) % length places) → ⊥

-- the plant starts a run
abbrev pub IsBalanced : List ℕ → Type 0
IsBalanced places = IsRunStart places 0

-- the stems that start runs, in rising order, and no others do
pub record AreRunStarts (places : List ℕ) (first second : ℕ) : Type 0 where
  pub in_order : first < second
  pub first_is : IsRunStart places first
  pub second_is : IsRunStart places second
  pub no_third : (stem : ℕ) → IsRunStart places stem → (stem ≡ first) ⊎ (stem ≡ second)

-- no prefix of the contour has more sides than stems, and its last letter is a stem
pub record IsBelow (places : List ℕ) : Type 0 where
  pub prefixes : (k : ℕ) → k ≤ length places → sides places 0 k ≤ stem_steps places 0 k
  pub last : (k : ℕ) → suc k ≡ length places → slice_index places k ≡ STEM
