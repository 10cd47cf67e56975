use Rattle.pm_trees.proofs.OneBud.{bud_first, bud_second, bud_third}
use Rattle.pm_trees.proofs.patterns.bud_place.Goals as goal

pub returns-then-letters-eq-BUD : goal.returns-then-letters-eq-BUD
returns-then-letters-eq-BUD c = bud_first c.args.letters.now c.requires c.if-letters-eq-BUD.true

pub returns-then-letters-eq-BUD-2 : goal.returns-then-letters-eq-BUD-2
returns-then-letters-eq-BUD-2 c = bud_second c.args.letters.now c.requires c.if-letters-eq-BUD.false c.if-letters-eq-BUD-2.true

pub returns-else-letters-eq-BUD-2 : goal.returns-else-letters-eq-BUD-2
returns-else-letters-eq-BUD-2 c = bud_third c.args.letters.now c.requires c.if-letters-eq-BUD.false c.if-letters-eq-BUD-2.false
