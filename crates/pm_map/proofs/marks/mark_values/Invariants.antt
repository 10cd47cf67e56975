use Rattle.pm_map.specs.steps.Marks.{MarksValues}
use Rattle.pm_map.proofs.marks.mark_values.Given as goal

abbrev pub invariant-mark : goal.invariant-mark
invariant-mark l = MarksValues l.values l.place l.marks
