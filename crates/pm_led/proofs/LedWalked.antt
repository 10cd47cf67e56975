-- A structure in which darts lead both ways is numbered along its walk.
use Rattle.std.proofs.Common.{ap, arith}
use Rattle.pm_map.proofs.CarriedStructure.{euler_carried}
use Rattle.pm_walk.proofs.Cutting.{HasCut, has_cut}
use Rattle.pm_walk.proofs.NestedEdges.{walked_nested}
use Rattle.pm_walk.proofs.Numbered.{IsNumberedAlong, numbered_along}
use Rattle.pm_led.specs.LedLaws.{EachLedMapIsWalked}
use Rattle.pm_led.proofs.LedWhole.{whole}

pub each_led_is_walked : EachLedMapIsWalked
each_led_is_walked s out is some euler led =
    let c : HasCut s out s.darts = has_cut s out is some s.darts in
    let n : IsNumberedAlong s out = numbered_along s out c.cut (whole s out is some euler led c) in
    let nested = walked_nested n.walked (λ k. out (n.dart k)) n.structure (omega (arith, n.carries.darts)) (euler_carried n.rename s n.walked is n.structure n.carries euler) n.in_order in
    record {
      walk = record {
        walked = n.walked;
        passes = λ k. out (n.dart k);
        rename = n.rename;
        carries = n.carries;
        structure = n.structure;
        in_order = n.in_order;
        same = λ d l. ap out (n.back d l);
      };
      kept = nested.0;
      cut = nested.1;
    }
