use Rattle.pm_brackets.proofs.Reading.{IsReading}
use Rattle.pm_brackets.proofs.faults.first_unmatched.Given as goal

abbrev pub invariant-letters : goal.invariant-letters
invariant-letters l = IsReading l.word l.open.items l.i
