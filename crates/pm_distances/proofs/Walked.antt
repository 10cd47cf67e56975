-- Structures whose darts are numbered along the walk that goes by levels: it cuts an edge where it meets it first at a dart
-- beyond which the face is one level further.
use Rattle.std.specs.Prelude.{ℕ, suc, ◌==◌, Bool}
use Rattle.pm_map.specs.Structure.{Structure}
use Rattle.pm_walk.specs.Walk.{is_cut as is_cut_by, across as across_by, IsWalkedInOrder as IsWalkedBy}

-- the face beyond is one level further
abbrev pub is_up : Structure → (ℕ → ℕ) → ℕ → Bool
is_up s level d = level (s.twin d) == suc (level d)

-- so the walk cuts and keeps edges by the levels
abbrev pub is_cut : Structure → (ℕ → ℕ) → ℕ → Bool
is_cut s level = is_cut_by s (is_up s level)

abbrev pub across : Structure → (ℕ → ℕ) → ℕ → ℕ
across s level = across_by s (is_up s level)

abbrev pub IsWalkedInOrder : Structure → (ℕ → ℕ) → Type 0
IsWalkedInOrder s level = IsWalkedBy s (is_up s level)
