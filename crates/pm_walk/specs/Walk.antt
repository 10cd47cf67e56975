-- Structures whose darts are numbered along a walk, for a test of darts. The walk starts at the root. Where it meets an edge
-- for the first time, at a dart that passes, it cuts the edge and goes on around the vertex; at another edge it goes on
-- behind the twin. Where it meets the edge again, it does so likewise.
use Rattle.std.specs.Prelude.{◌≡◌, ℕ, suc, ◌%◌, ◌<◌, nat_lt, Bool, if◌then◌else◌}
use Rattle.pm_map.specs.Structure.{Structure}

-- the dart of the edge that is met first
abbrev pub first_of : Structure → ℕ → ℕ
first_of s d = if nat_lt (s.twin d) d then s.twin d else d

-- the edge is cut
abbrev pub is_cut : Structure → (ℕ → Bool) → ℕ → Bool
is_cut s out d = out (first_of s d)

-- the dart across: on an edge that is cut the dart itself, on another one its twin
abbrev pub across : Structure → (ℕ → Bool) → ℕ → ℕ
across s out d = if is_cut s out d then d else s.twin d

-- the partner of a dart: on an edge that is cut its twin, on another one the dart itself
abbrev pub partner : Structure → (ℕ → Bool) → ℕ → ℕ
partner s out d = if is_cut s out d then s.twin d else d

-- the darts are numbered along the walk: the root is the first, and after each dart comes the next one around the vertex of
-- the dart across; the last leads back to the root
pub record IsWalkedInOrder (s : Structure) (out : ℕ → Bool) : Type 0 where
  pub root : s.root ≡ 0
  pub onward : (d : ℕ) → d < s.darts → s.next (across s out d) ≡ suc d % s.darts
