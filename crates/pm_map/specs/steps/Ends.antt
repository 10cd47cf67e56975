-- The ends of edges, each vertex told by its least dart.
use Rattle.std.specs.Prelude.{◌≡◌, ◌≢◌, ℕ, ◌<◌, ◌≤◌, List, length, slice_index, slice_index_or}
use Rattle.pm_map.specs.declared.simple.Ends.{Ends}
use Rattle.pm_map.specs.Rotation.{twin}

-- the entry at a place
abbrev pub entry_at : List Ends → ℕ → Ends
entry_at ends k = slice_index_or ends k (record { vertex = 0; far = 0; dart = 0 })

-- the ends of the edge of a dart, by the leaders
abbrev pub ends_of : List ℕ → ℕ → Ends
ends_of leaders d = record { vertex = slice_index leaders d; far = slice_index leaders (twin d); dart = d }

-- entry d is that of dart d
pub record AreListed (leaders : List ℕ) (ends : List Ends) : Type 0 where
  pub same_length : length ends ≡ length leaders
  pub each : (d : ℕ) → d < length leaders → entry_at ends d ≡ ends_of leaders d

-- the same two vertices
pub record HaveEqualEnds (a b : Ends) : Type 0 where
  pub near : a.vertex ≡ b.vertex
  pub far : a.far ≡ b.far

-- entries with equal ends stand side by side: so do those between them
abbrev pub AreGrouped : List Ends → Type 0
AreGrouped ends = (i j k : ℕ) → i ≤ j → j ≤ k → k < length ends → HaveEqualEnds (entry_at ends i) (entry_at ends k) → HaveEqualEnds (entry_at ends i) (entry_at ends j)

-- no two entries have equal ends
abbrev pub AreApart : List Ends → Type 0
AreApart ends = (j k : ℕ) → j < k → k < length ends → HaveEqualEnds (entry_at ends j) (entry_at ends k) → ⊥

-- the least dart of an entry whose ends another entry has
pub record IsLeastRepeated (ends : List Ends) (dart : ℕ) : Type 0 where
  pub place : ℕ
  pub other : ℕ
  pub within : place < length ends
  pub other_within : other < length ends
  pub differs : other ≢ place
  pub equal : HaveEqualEnds (entry_at ends place) (entry_at ends other)
  pub is_dart : (entry_at ends place).dart ≡ dart
  pub least : (j k : ℕ) → j < length ends → k < length ends → j ≢ k → HaveEqualEnds (entry_at ends j) (entry_at ends k) → dart ≤ (entry_at ends j).dart
