use Rattle.std.proofs.Common.{◌≡◌, refl, ap, map, arith}
use Rattle.std.specs.Prelude.{codes, string_bytes}
use Rattle.pm_cli.proofs.StoppingWords.{no_words, some_words, missing_word, other_word, words_after, false_true}
use Rattle.pm_cli.proofs.words.eulerian_alone.Goals as goal

pub returns-in_default : goal.returns-in_default
returns-in_default c = (omega arith, missing_word (λ word. word ≡ codes "eulerian") (codes "eulerian") refl _ (no_words string_bytes c.args.words.now c.in_default.ensures.cases))

pub returns-then-not-is_word : goal.returns-then-not-is_word
returns-then-not-is_word c =
    (omega arith, other_word (λ word. word ≡ codes "eulerian") (codes "eulerian") refl _ _ _ (ap (map string_bytes) c.in-Some.ensures.cases.0) (λ e. false_true (c.if-not-is_word.ensures.1 e)))

pub returns-else-is_empty : goal.returns-else-is_empty
returns-else-is_empty c = (
  omega arith,
  words_after (λ word. word ≡ codes "eulerian") (codes "eulerian") refl _ _ _ (ap (map string_bytes) c.in-Some.ensures.cases.0) (c.if-not-is_word.ensures.0 refl)
      (some_words string_bytes c.in-Some.rest.now c.if-is_empty.ensures),
)
