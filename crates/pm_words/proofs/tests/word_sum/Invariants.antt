use Rattle.std.proofs.Common.{ℕ, ◌<◌, pos, negsuc, ◌≤ℤ◌, get_or}
use Rattle.pm_words.proofs.Heights.{IsSummedTo}
use Rattle.pm_words.proofs.tests.word_sum.Given as goal

abbrev pub invariant-letters : goal.invariant-letters
invariant-letters l = IsSummedTo l.word l.letter-index l.sum × ((place : ℕ) → place < l.letter-index → negsuc 0 ≤ℤ get_or l.word place (pos 0))
