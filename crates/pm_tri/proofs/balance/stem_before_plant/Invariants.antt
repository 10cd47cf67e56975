use Rattle.std.proofs.Common.{suc}
use Rattle.pm_tri.specs.StemTree.{contour}
use Rattle.pm_tri.proofs.PlantScans.{IsRiseBehind}
use Rattle.pm_tri.proofs.balance.stem_before_plant.Given as goal

abbrev pub invariant-back : goal.invariant-back
invariant-back l = IsRiseBehind (contour l.word) (suc l.index) l.rise
