use Rattle.pm_close.specs.steps.Levelling.{IsLevelled}
use Rattle.pm_close.proofs.levels.levels_of.Given as goal

abbrev pub invariant-loop-index : goal.invariant-loop-index
invariant-loop-index l = IsLevelled l.letters l.darts l.by_dart.items l.level l.index
