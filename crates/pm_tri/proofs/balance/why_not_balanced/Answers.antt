use Rattle.pm_tri.proofs.PlantScans.{text_balanced, text_following}
use Rattle.pm_tri.proofs.balance.why_not_balanced.Goals as goal

pub returns-then-stem-word : goal.returns-then-stem-word
returns-then-stem-word c = text_balanced _ _ _ c.letters-word.ensures.letters c.letters-word.ensures.valid c.if-stem-word.true c.stem_before_plant-stem.ensures

pub returns-else-stem-word : goal.returns-else-stem-word
returns-else-stem-word c = text_following _ _ _ c.letters-word.ensures.letters c.letters-word.ensures.valid c.if-stem-word.false c.stem_before_plant-stem.ensures
