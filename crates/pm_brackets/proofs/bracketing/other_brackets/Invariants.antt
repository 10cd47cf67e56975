use Rattle.std.proofs.Common.{ℕ}
use Rattle.pm_brackets.specs.Word.{IsOther}
use Rattle.pm_brackets.proofs.Filling.{IsFilling}
use Rattle.pm_brackets.proofs.bracketing.other_brackets.Given as goal

abbrev pub invariant-letters : goal.invariant-letters
invariant-letters l = (plant : ℕ) → IsOther plant → IsFilling plant l.word l.other.items l.open.items l.i
