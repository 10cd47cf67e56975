use Rattle.std.proofs.Common.{ℕ, ◌<◌, get_or, IsTrue}
use Rattle.pm_brackets.specs.Word.{is_letter_of}
use Rattle.pm_brackets.proofs.faults.first_foreign.Given as goal

abbrev pub invariant-letters : goal.invariant-letters
invariant-letters l = (k : ℕ) → k < l.i → IsTrue (is_letter_of l.others (get_or l.word k 0))
