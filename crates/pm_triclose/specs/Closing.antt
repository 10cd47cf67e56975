-- What closing a stem tree answers.
use Rattle.std.specs.Prelude.{◌≡◌, ℕ, ◌*◌, List, length, Result, Ok, Err, ⊤}
use Rattle.pm_map.specs.Rotation.{RotationSystem, structure_of}
use Rattle.pm_tri.specs.Balance.{IsFollowing}
use Rattle.pm_tri.specs.Runs.{IsBalanced, IsClosing}
use Rattle.pm_tri.specs.StemTree.{contour, nodes}
use Rattle.pm_triclose.specs.Closure.{IsStemClosure}
use Rattle.pm_triclose.specs.declared.close.TriCloseRefusal.{TriCloseRefusal}
use Rattle.pm_triclose.specs.declared.close.TriCloseRefusal.TheVariants.{Memory, Closes, Follows}

-- the map is the closure of the tree, which is balanced; its root is dart 0, and it has six darts for each node of the tree
pub record ClosesTo (word : List ℕ) (map : RotationSystem) : Type 0 where
  pub balanced : IsBalanced (contour word)
  pub closure : IsStemClosure (contour word) (structure_of map)
  pub root : map.root ≡ 0
  pub darts : length map.sigma ≡ 6 * nodes word

-- What a balanced stem tree closes to; else the side at which the plant closes, or the free stem before the plant, which is free
-- and doesn't follow it directly. Want of memory may come at any tree.
abbrev pub IsTriClosing : List ℕ → Result RotationSystem TriCloseRefusal → Type 0
IsTriClosing word (Ok map) = ClosesTo word map
IsTriClosing word (Err (Closes side)) = IsClosing (contour word) 0 side
IsTriClosing word (Err (Follows stem)) = IsFollowing (contour word) stem
IsTriClosing word (Err Memory) = ⊤
