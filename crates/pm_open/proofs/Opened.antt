-- What the walk that opens a map leaves, where its darts are numbered along the walk.
use Rattle.std.specs.Prelude.{◌≡◌, ℕ, suc, ◌*◌, ◌<◌, true, false, List, length, if◌then◌else◌}
use Rattle.std.specs.List.{count_by}
use Rattle.pm_perm.specs.Pairs.{IsInvolutionBelow, IsNestedBelow}
use Rattle.pm_map.specs.Structure.{Structure}
use Rattle.pm_map.specs.Meeting.{IsVertexFrom}
use Rattle.pm_walk.specs.Walk.{partner as partner_by}
use Rattle.pm_distances.proofs.Walked.{is_up, is_cut, across}

-- the partner of a dart: on an edge that is cut its twin, on another one the dart itself
abbrev pub partner : Structure → (ℕ → ℕ) → ℕ → ℕ
partner s level = partner_by s (is_up s level)

-- The edges that are cut are nested, and so are the others. An edge that is cut leads one level up from its first dart, and
-- another one leads one level down. Half of the darts at a vertex lead up.
pub record IsOpened (s : Structure) (level : ℕ → ℕ) : Type 0 where
  pub brackets : IsInvolutionBelow s.darts (across s level)
  pub brackets_nested : IsNestedBelow s.darts (across s level)
  pub pairs : IsInvolutionBelow s.darts (partner s level)
  pub pairs_nested : IsNestedBelow s.darts (partner s level)
  pub root_up : level (s.twin 0) ≡ 1
  pub along : (d : ℕ) → suc d < s.darts → level (suc d) ≡ (if is_cut s level d then level (s.twin d) else level d)
  pub cut_up : (d : ℕ) → d < s.darts → is_cut s level d ≡ true → d < s.twin d → level (s.twin d) ≡ suc (level d)
  pub kept_down : (d : ℕ) → d < s.darts → is_cut s level d ≡ false → d < s.twin d → level d ≡ suc (level (s.twin d))
  pub half_up : (d : ℕ) (vertex : List ℕ) → d < s.darts → IsVertexFrom s d vertex → 2 * count_by (is_up s level) vertex ≡ length vertex
