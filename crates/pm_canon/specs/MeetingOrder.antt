-- The meeting list as one list of darts.
use Rattle.std.specs.Prelude.{◌≡◌, ℕ, ◌<◌, List, length, slice_index, Contains}
use Rattle.pm_map.specs.Structure.{Structure}
use Rattle.pm_map.specs.Meeting.{IsMeetingList, darts_of}

-- the list has darts below the bound, and none of them twice
pub record HasEachOnce (bound : ℕ) (darts : List ℕ) : Type 0 where
  pub stays : (k : ℕ) → k < length darts → slice_index darts k < bound
  pub injective : (j k : ℕ) → j < length darts → k < length darts → slice_index darts j ≡ slice_index darts k → j ≡ k

-- the list is the meeting list, and has each dart once
pub record IsMeetingOrder (s : Structure) (darts : List ℕ) : Type 0 where
  pub vertices : List (List ℕ)
  pub is_list : IsMeetingList s vertices
  pub order : darts ≡ darts_of vertices
  pub once : HasEachOnce s.darts darts
  pub all : (d : ℕ) → d < s.darts → Contains darts d
