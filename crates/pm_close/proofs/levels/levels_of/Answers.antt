use Rattle.std.proofs.Common.{arith}
use Rattle.pm_close.proofs.LevelSteps.{levelled_bud, levelled_leaf, levelled_other}
use Rattle.pm_close.proofs.levels.levels_of.Goals as goal
use Rattle.pm_close.proofs.levels.levels_of.Goals.{in-98, in-108, in_default}

pub loop-index-preserved : goal.loop-index-preserved
loop-index-preserved c = elim c.match-letters-index.branch [
  | in-98 w ↦ rw w.level-is (levelled_bud _ _ _ _ _ c.requires.permutation c.requires.each_place c.loop-index-test.true w.in-98.is c.loop-index.invariant)
  | in-108 w ↦ rw w.level-is (levelled_leaf _ _ _ _ _ c.requires.low c.requires.permutation c.requires.each_place c.loop-index-test.true w.in-108.is c.loop-index.invariant)
  | in_default w ↦ rw w.level-is
      (levelled_other _ _ _ _ _ c.requires.permutation c.requires.each_place c.loop-index-test.true (λ e. absurd (omega arith)) (λ e. absurd (omega arith)) c.loop-index.invariant)
]
