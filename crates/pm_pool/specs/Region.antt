-- Regions of darts: a store in which some darts are live. Live darts have a rotation around their vertices, its inverse and
-- twins; a dart that isn't live stands alone (Edmonds 1960, Tutte 1963: maps as rotations).
use Rattle.std.specs.Prelude.{◌≡◌, ◌≢◌, ℕ, ◌+◌, ◌<◌, ◌^◌, Bool, false, true, IsTrue, List, length, set, slice_index, slice_index_or}
use Rattle.pm_perm.specs.Count.{count_below}
use Rattle.pm_perm.specs.Lists.{IsInverseList}
use Rattle.pm_perm.specs.Pairs.{IsInvolutionBelow}
use Rattle.pm_perm.specs.Permutation.{IsPermutationList}

-- For each dart, from 0 on: whether it is live, the dart after it and the one before it around its vertex, and its twin.
pub record Region : Type 0 where
  pub live : List Bool
  pub next : List ℕ
  pub prev : List ℕ
  pub twin : List ℕ

-- how many darts there are, live or not
abbrev pub room : Region → ℕ
room r = length r.live

abbrev pub is_live : Region → ℕ → Bool
is_live r d = slice_index_or r.live d false

abbrev pub IsLive : Region → ℕ → Type 0
IsLive r d = IsTrue (is_live r d)

-- how many darts are live
abbrev pub live_darts : Region → ℕ
live_darts r = count_below (is_live r) (room r)

-- the dart is the only one of its vertex, and its own twin
pub record IsAlone (r : Region) (d : ℕ) : Type 0 where
  pub next : slice_index r.next d ≡ d
  pub prev : slice_index r.prev d ≡ d
  pub twin : slice_index r.twin d ≡ d

-- What holds of every region. The lists have an entry for each dart; next is a permutation and prev its inverse; each dart is the
-- twin of its twin; and a dart that isn't live is alone.
pub record IsRegion (r : Region) : Type 0 where
  pub few : room r < 2 ^ 32
  pub next_length : length r.next ≡ room r
  pub twin_length : length r.twin ≡ room r
  pub rotation : IsPermutationList r.next
  pub inverse : IsInverseList r.next r.prev
  pub twins : IsInvolutionBelow (room r) (slice_index r.twin)
  pub dead_alone : (d : ℕ) → d < room r → is_live r d ≡ false → IsAlone r d

-- the same region, but for whether this dart is live
abbrev pub with_live : Region → ℕ → Bool → Region
with_live r d live = record { live = set r.live d live; next = r.next; prev = r.prev; twin = r.twin }

-- a dart that wasn't live is, and all else is as it was: so it is alone
pub record IsTaken (before after : Region) (d : ℕ) : Type 0 where
  pub valid : IsRegion after
  pub within : d < room before
  pub was_dead : is_live before d ≡ false
  pub is_now : after ≡ with_live before d true
  pub same_room : room after ≡ room before
  pub one_more : live_darts after ≡ live_darts before + 1
  pub alone : IsAlone after d

-- The dart d, which was alone, stands directly after `at` around the vertex of `at`, and all else is as it was.
pub record IsInserted (before after : Region) (at d : ℕ) : Type 0 where
  pub valid : IsRegion after
  pub same_live : after.live ≡ before.live
  pub same_twin : after.twin ≡ before.twin
  pub after_at : slice_index after.next at ≡ d
  pub after_new : slice_index after.next d ≡ slice_index before.next at
  pub elsewhere : (e : ℕ) → e < room before → e ≢ at → e ≢ d → slice_index after.next e ≡ slice_index before.next e

-- The dart d is closed out of its vertex and is alone, and all else is as it was.
pub record IsRemoved (before after : Region) (d : ℕ) : Type 0 where
  pub valid : IsRegion after
  pub same_live : after.live ≡ before.live
  pub same_twin : after.twin ≡ before.twin
  pub alone : IsAlone after d
  pub closed : slice_index before.prev d ≢ d → slice_index after.next (slice_index before.prev d) ≡ slice_index before.next d
  pub elsewhere : (e : ℕ) → e < room before → e ≢ d → e ≢ slice_index before.prev d → slice_index after.next e ≡ slice_index before.next e

-- no dart is live, so each is alone
pub record IsCleared (r : Region) (darts : ℕ) : Type 0 where
  pub valid : IsRegion r
  pub as_many : room r ≡ darts
  pub none_live : (d : ℕ) → is_live r d ≡ false

-- Two stems x and y of one region are twins in the other, and all else is the same: the other way, the edge of x and y is cut.
pub record IsPaired (parted paired : Region) (x y : ℕ) : Type 0 where
  pub same_live : paired.live ≡ parted.live
  pub same_next : paired.next ≡ parted.next
  pub same_prev : paired.prev ≡ parted.prev
  pub first_stem : slice_index parted.twin x ≡ x
  pub second_stem : slice_index parted.twin y ≡ y
  pub first_twin : slice_index paired.twin x ≡ y
  pub second_twin : slice_index paired.twin y ≡ x
  pub elsewhere : (e : ℕ) → e < room parted → e ≢ x → e ≢ y → slice_index paired.twin e ≡ slice_index parted.twin e
