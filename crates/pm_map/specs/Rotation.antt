-- Maps: structures in which the darts 2k and 2k+1 are twins, so that the rotation and the root are all there is to tell.
use Rattle.std.specs.Prelude.{◌≡◌, ℕ, suc, ◌*◌, ◌-◌, ◌%◌, ◌≤◌, List, length, slice_index}
use Rattle.pm_limits.specs.declared.TheConstants.{MAX_EDGES}
use Rattle.pm_map.specs.Structure.{Structure, IsStructure, IsConnected}
use Rattle.pm_map.specs.Plane.{HasEulerTwo}

-- what contracts see of a rooted map: entry d of sigma is the dart after d around its vertex
pub record RotationSystem : Type 0 where
  pub sigma : List ℕ
  pub root : ℕ

-- the other dart of the edge: 2k+1 for 2k, and 2k for 2k+1 (d xor 1)
abbrev pub twin : ℕ → ℕ
twin d = suc d - 2 * (d % 2)

-- the map as a structure
abbrev pub structure_of : RotationSystem → Structure
structure_of m = record { darts = length m.sigma; next = slice_index m.sigma; twin = twin; root = m.root }

-- the dart after this one around its face
abbrev pub face_step : List ℕ → ℕ → ℕ
face_step sigma d = slice_index sigma (twin d)

-- what every rooted map keeps: an even number of darts within the limit, a rotation and a root, and that it is plane
pub record IsRootedMap (m : RotationSystem) : Type 0 where
  pub even : length m.sigma % 2 ≡ 0
  pub few : length m.sigma ≤ 2 * MAX_EDGES
  pub structure : IsStructure (structure_of m)
  pub connected : IsConnected (structure_of m)
  pub euler : HasEulerTwo (structure_of m)
