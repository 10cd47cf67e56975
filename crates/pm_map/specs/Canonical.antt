-- Canonical numbering: edges are numbered in the order in which the meeting list mentions them first.
use Rattle.std.specs.Prelude.{◌≡◌, ℕ, ◌*◌, ◌<◌, ◌==◌, List, [], ◌∷◌, length, slice_index, if◌then◌else◌}
use Rattle.std.specs.List.{list_any}
use Rattle.pm_map.specs.Rotation.{RotationSystem, structure_of, twin}
use Rattle.pm_map.specs.Structure.{Structure, Same}
use Rattle.pm_map.specs.Meeting.{IsMeetingList, darts_of}

-- the darts of a list whose twins don't stand before them, where the darts before the list were these
abbrev pub first_mentions_after : List ℕ → List ℕ → List ℕ
first_mentions_after before [] = []
first_mentions_after before (d ∷ darts) =
    if list_any (λ e. e == twin d) before then first_mentions_after (d ∷ before) darts else d ∷ first_mentions_after (d ∷ before) darts

-- one dart of each edge, in the order in which the list mentions the edges first
abbrev pub first_mentions : List ℕ → List ℕ
first_mentions darts = first_mentions_after [] darts

-- a map is canonical where its root is 0 and the k-th edge, in the order of first mention, has that mention named 2k
pub record IsCanonical (m : RotationSystem) : Type 0 where
  pub root : m.root ≡ 0
  pub vertices : List (List ℕ)
  pub met : IsMeetingList (structure_of m) vertices
  pub named : (k : ℕ) → k < length (first_mentions (darts_of vertices)) → slice_index (first_mentions (darts_of vertices)) k ≡ 2 * k

-- the canonical map of a structure, whatever its twins: it is canonical, and it is the same
pub record IsCanonicalForm (s : Structure) (canonical : RotationSystem) : Type 0 where
  pub is_canonical : IsCanonical canonical
  pub is_same : Same s (structure_of canonical)

-- the canonical map of a map
abbrev pub IsCanonicalOf : RotationSystem → RotationSystem → Type 0
IsCanonicalOf m canonical = IsCanonicalForm (structure_of m) canonical
