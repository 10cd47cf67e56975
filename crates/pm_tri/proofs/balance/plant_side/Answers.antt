use Rattle.std.proofs.Common.{arith, add-one}
use Rattle.pm_tri.proofs.PlantScans.{below_none, below_side, below_stem, plant_closes, plant_is_free}
use Rattle.pm_tri.proofs.balance.plant_side.Goals as goal
use Rattle.pm_tri.proofs.balance.plant_side.Goals.{then-letter-eq-STEM, else-letter-eq-STEM+else-below-eq0}

pub letters-init : goal.letters-init
letters-init c = below_none _

pub letters-preserved : goal.letters-preserved
letters-preserved c = elim c.if-letter-eq-STEM.branch [
  | then-letter-eq-STEM w ↦ below_stem _ c.requires.tree c.letters.i _ c.letters.below _ c.letters-test.true w.if-letter-eq-STEM.true (add-one c.letters.i) w.below-is c.letters.invariant
  | else-letter-eq-STEM+else-below-eq0 w ↦
      below_side _ c.requires.tree c.letters.i _ c.letters.below _ c.letters-test.true w.if-letter-eq-STEM.false (add-one c.letters.i) w.if-below-eq0.false w.below-is c.letters.invariant
]

pub returns-then-below-eq0 : goal.returns-then-below-eq0
returns-then-below-eq0 c = plant_closes _ c.requires.tree c.letters.i _ c.letters.below c.letters-test.true c.if-letter-eq-STEM.false (add-one c.letters.i) c.if-below-eq0.true c.letters.invariant

pub returns : goal.returns
returns c = plant_is_free _ c.requires.tree c.letters.i c.letters.below (omega arith) c.letters.invariant
