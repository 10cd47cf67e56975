use Rattle.std.proofs.Common.{List, ℕ, ◌∷◌, sym, ap, ◌∙◌, map, take, arith}
use Rattle.std.specs.Prelude.{string_bytes}
use Rattle.pm_cli.proofs.StoppingWords.{no_words, no_class_first, no_size_behind, first_words, no_first}
use Rattle.pm_cli.proofs.words.read_size.Goals as goal

pub returns-in_default : goal.returns-in_default
returns-in_default c = (omega arith, no_class_first _ (λ size e. no_first (ap (take 1) (sym (no_words string_bytes c.args.words.now c.in_default.ensures.cases)) ∙ e)))

pub returns-in_default-of_word : goal.returns-in_default-of_word
returns-in_default-of_word c =
    (omega arith, no_class_first _ (λ size e. c.in_default-of_word.ensures _ (first_words (ap (take 1) (sym (ap (map string_bytes) c.in-Some.ensures.cases.0)) ∙ e))))

pub returns-in_default-split_first : goal.returns-in_default-split_first
returns-in_default-split_first c = (
  omega arith,
  no_size_behind _ (map string_bytes c.in-Some.behind.now) c.in-Some-of_word.class
      (ap (map string_bytes) c.in-Some.ensures.cases.0 ∙ ap (λ (w : List ℕ). w ∷ map string_bytes c.in-Some.behind.now) c.in-Some-of_word.ensures)
      (λ size of is e. no_first (ap (take 1) (sym (no_words string_bytes c.in-Some.behind.now c.in_default-split_first.ensures.cases)) ∙ e)),
)

pub returns-in-None : goal.returns-in-None
returns-in-None c = (
  omega arith,
  no_size_behind _ (map string_bytes c.in-Some.behind.now) c.in-Some-of_word.class
      (ap (map string_bytes) c.in-Some.ensures.cases.0 ∙ ap (λ (w : List ℕ). w ∷ map string_bytes c.in-Some.behind.now) c.in-Some-of_word.ensures)
      (λ size of is e. (rw c.in-None.is at c.in_ok-size.ensures) size of is (first_words (ap (take 1) (sym (ap (map string_bytes) c.in-Some-split_first.ensures.cases.0)) ∙ e))),
)
