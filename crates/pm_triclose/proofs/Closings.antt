-- The closure of a whole tree is what the tree closes to.
use Rattle.std.proofs.Common.{ℕ, List, refl}
use Rattle.pm_map.specs.Rotation.{structure_of}
use Rattle.pm_tri.specs.Runs.{IsBalanced}
use Rattle.pm_tri.specs.StemTree.{IsStemTree, contour}
use Rattle.pm_tri.specs.Whole.{whole}
use Rattle.pm_triclose.specs.Closing.{ClosesTo}
use Rattle.pm_triclose.specs.WholeClosure.{IsWholeClosure}
use Rattle.pm_triclose.proofs.TreeClosures.{whole_sized}
use Rattle.pm_triclose.proofs.WholeClosures.{closures_whole}

pub closes_to : (word sigma : List ℕ) → IsStemTree word → IsBalanced (contour word) → IsWholeClosure (contour (whole word)) (structure_of (record { sigma = sigma; root = 0 })) → ClosesTo word (record { sigma = sigma; root = 0 })
closes_to word sigma t b c = record {
  balanced = b;
  closure = (closures_whole word (structure_of (record { sigma = sigma; root = 0 })) t b).1 c;
  root = refl;
  darts = (whole_sized word (structure_of (record { sigma = sigma; root = 0 })) t b c).darts_are;
}
