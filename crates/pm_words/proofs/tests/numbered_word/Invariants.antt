use Rattle.std.proofs.Common.{◌≡◌, vec_len}
use Rattle.pm_words.proofs.tests.numbered_word.Given as goal

abbrev pub invariant-digits : goal.invariant-digits
invariant-digits l = vec_len l.word ≡ l.counter
