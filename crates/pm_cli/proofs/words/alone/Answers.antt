use Rattle.std.proofs.Common.{refl, ap, map, arith}
use Rattle.std.specs.Prelude.{string_bytes}
use Rattle.pm_cli.specs.steps.Words.{IsWordOf}
use Rattle.pm_cli.proofs.StoppingWords.{no_words, some_words, missing_word, other_word, words_after}
use Rattle.pm_cli.proofs.words.alone.Goals as goal

pub returns-in_default : goal.returns-in_default
returns-in_default g c =
    (omega arith, missing_word (IsWordOf g.W.Spelled.word_of) (g.W.Spelled.word_of g.W.Spelled.some) (g.W.Spelled.some, refl) _ (no_words string_bytes c.args.words.now c.in_default.ensures.cases))

pub returns-in_default-of_word : goal.returns-in_default-of_word
returns-in_default-of_word g c = (
  omega arith,
  other_word (IsWordOf g.W.Spelled.word_of) (g.W.Spelled.word_of g.W.Spelled.some) (g.W.Spelled.some, refl) _ _ _ (ap (map string_bytes) c.in-Some.ensures.cases.0)
      (λ is. c.in_default-of_word.ensures is.0 is.1),
)

pub returns-else-is_empty : goal.returns-else-is_empty
returns-else-is_empty g c = (
  omega arith,
  words_after (IsWordOf g.W.Spelled.word_of) (g.W.Spelled.word_of g.W.Spelled.some) (g.W.Spelled.some, refl) _ _ _ (ap (map string_bytes) c.in-Some.ensures.cases.0)
      (c.in-Some-of_word.it, c.in-Some-of_word.ensures) (some_words string_bytes c.in-Some.rest.now c.if-is_empty.ensures),
)
