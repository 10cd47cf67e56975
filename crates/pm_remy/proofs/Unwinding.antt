-- The loop of growing, over the lists as they stand.
use Rattle.std.proofs.Common.{◌≡◌, ℕ, suc, ◌<◌, ◌≤◌, List, length, slice_index, arith}
use Rattle.pm_remy.specs.Tree.{leaf, leaves}
use Rattle.pm_remy.specs.Growth.{grown_by, IsChoices}
use Rattle.pm_remy.specs.steps.Linked.{IsTreeIn}
use Rattle.pm_remy.proofs.Grown.{counted-leaf, counted-grown_by}
use Rattle.pm_remy.proofs.Once.{counted-leaves, labels-counted}

-- the first tree
pub start-in : (L P : List ℕ) → 0 < length L → 0 < length P → slice_index L 0 ≡ 0 → slice_index P 0 ≡ 0 → IsTreeIn L P (leaf 0)
start-in L P q i down up =
    record {
      rooted = record { root = record { down = down; up = up }; within = tt };
      once = labels-counted 1 (leaf 0) counted-leaf;
      links_room = omega arith;
      places_room = omega arith;
    }

pub leaves-grown_by : (cs : List ℕ) (k : ℕ) → IsChoices cs → k ≤ length cs → leaves (grown_by cs k) ≡ suc k
leaves-grown_by cs k h q = counted-leaves (suc k) (grown_by cs k) (counted-grown_by cs k h q)
