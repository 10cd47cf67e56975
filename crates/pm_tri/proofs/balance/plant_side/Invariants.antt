use Rattle.pm_tri.specs.StemTree.{contour}
use Rattle.pm_tri.proofs.PlantScans.{IsBelowPlant}
use Rattle.pm_tri.proofs.balance.plant_side.Given as goal

abbrev pub invariant-letters : goal.invariant-letters
invariant-letters l = IsBelowPlant (contour l.word) l.i l.below
