use Rattle.std.proofs.Common.{arith}
use Rattle.pm_map.proofs.DualMaps.{dual_is_rooted}
use Rattle.pm_medial.proofs.DualWritten.{turned_is_dual}
use Rattle.pm_medial.proofs.duals.dual.Goals as goal

pub from_rooted_rotation-requires : goal.from_rooted_rotation-requires
from_rooted_rotation-requires c =
    dual_is_rooted _ _ c.edges-dart-end.ensures.valid
    (turned_is_dual c.args.map.now c.darts.rotation.items c.root.result c.darts.dart c.darts.invariant (omega (arith, c.darts-test.false, c.darts.auto.dart-end, c.edges-dart-end.ensures.edges)) c.root.ensures)
