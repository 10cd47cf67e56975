-- The search for the darts that the root reaches, face by face: marked darts were met, and those on the stack wait.
use Rattle.std.specs.Prelude.{◌≡◌, ℕ, ◌+◌, ◌<◌, ◌≤◌, ◌⊎◌, ◌&&◌, Bool, false, eqb, List, length, slice_index_or, sum_by, if◌then◌else◌, Contains}
use Rattle.pm_perm.specs.Count.{count_below}
use Rattle.pm_perm.specs.Cycles.{leader, IsInCycle}
use Rattle.pm_map.specs.Structure.{Structure, face_next}
use Rattle.pm_map.specs.Rotation.{face_step}
use Rattle.pm_map.specs.steps.Marks.{IsMarked}
use Rattle.pm_map.specs.Reached.{IsReached}

-- waiting darts are marked; the faces of marked darts are marked and reached, and this is their number
pub record MarksFaces (s : Structure) (marks : List Bool) (stack : List ℕ) (faces : ℕ) : Type 0 where
  pub below : (d : ℕ) → Contains stack d → d < s.darts
  pub waiting : (d : ℕ) → Contains stack d → IsMarked marks d
  pub whole : (d : ℕ) → d < s.darts → IsMarked marks d → IsMarked marks (face_next s d)
  pub reached : (d : ℕ) → IsMarked marks d → IsReached s d
  pub counted : faces ≡ count_below (λ d. slice_index_or marks d false && eqb (leader s.darts (face_next s) d) d) s.darts

-- the root is marked, and each marked dart waits, or its twin is marked
pub record IsSearch (s : Structure) (marks : List Bool) (stack : List ℕ) (faces : ℕ) : Type 0 where
  pub root : IsMarked marks s.root
  pub done : (d : ℕ) → d < s.darts → IsMarked marks d → Contains stack d ⊎ IsMarked marks (s.twin d)
  pub marked : MarksFaces s marks stack faces

-- what is left to do: two for each dart that isn't marked, and one for each that waits
abbrev pub work_left : List Bool → List ℕ → ℕ
work_left marks stack = sum_by (λ is_marked. if is_marked then 0 else 2) marks + length stack

-- Darts of the face of `start` are marked and wait that weren't marked before, and nothing else changes. Each is followed by
-- a marked dart, or by `dart`, at which the walk stands.
pub record WalksFace (sigma : List ℕ) (start dart : ℕ) (marks : List Bool) (stack : List ℕ) (marks_after : List Bool) (stack_after : List ℕ) : Type 0 where
  pub within : dart < length sigma
  pub size : length marks_after ≡ length marks
  pub around : IsInCycle (face_step sigma) start dart
  pub begun : IsMarked marks_after start ⊎ (start ≡ dart)
  pub kept : (e : ℕ) → IsMarked marks e → IsMarked marks_after e
  pub fresh : (e : ℕ) → IsMarked marks_after e → IsMarked marks e ⊎ (Contains stack_after e × IsInCycle (face_step sigma) start e)
  pub stacked : (e : ℕ) → Contains stack e → Contains stack_after e
  pub only : (e : ℕ) → Contains stack_after e → Contains stack e ⊎ (IsMarked marks_after e × IsInCycle (face_step sigma) start e)
  pub leads : (e : ℕ) → IsMarked marks_after e → IsMarked marks e ⊎ (IsMarked marks_after (face_step sigma e) ⊎ (face_step sigma e ≡ dart))
  pub work : work_left marks_after stack_after ≤ work_left marks stack

-- the walk stands at a marked dart
pub record MarksFace (sigma : List ℕ) (start : ℕ) (marks : List Bool) (stack : List ℕ) (marks_after : List Bool) (stack_after : List ℕ) : Type 0 where
  pub dart : ℕ
  pub walk : WalksFace sigma start dart marks stack marks_after stack_after
  pub ended : IsMarked marks_after dart
