use Rattle.pm_brackets.proofs.LetterCounts.{IsCounting}
use Rattle.pm_brackets.proofs.letter_places.nth_letter.Given as goal

abbrev pub invariant-letters : goal.invariant-letters
invariant-letters l = IsCounting l.letter l.word l.number l.left l.i
