use Rattle.std.proofs.Common.{List, ℕ, ◌∷◌, sym, ap, ◌∙◌, map, take}
use Rattle.std.specs.Prelude.{string_bytes}
use Rattle.pm_cli.proofs.CommandWords.{no_verb, stops_behind}
use Rattle.pm_cli.proofs.StoppingWords.{no_words, first_words, no_first}
use Rattle.pm_cli.proofs.command.Command.of_words.Goals as goal

pub returns-in_default : goal.returns-in_default
returns-in_default c = no_verb _ (λ verb e. no_first (ap (take 1) (sym (no_words string_bytes c.args.words.now c.in_default.ensures.cases)) ∙ e))

pub returns-in_default-of_word : goal.returns-in_default-of_word
returns-in_default-of_word c = no_verb _ (λ verb e. c.in_default-of_word.ensures verb (first_words (ap (take 1) (sym (ap (map string_bytes) c.in-Some.ensures.cases.0)) ∙ e)))

pub returns-in-Err : goal.returns-in-Err
returns-in-Err c =
    let stops = rw c.in-Err.is at c.in_ok-command.ensures in
    stops_behind _ c.in-Some-of_word.verb (map string_bytes c.in-Some.behind.now) c.in-Err.matched
    (ap (map string_bytes) c.in-Some.ensures.cases.0 ∙ ap (λ (w : List ℕ). w ∷ map string_bytes c.in-Some.behind.now) c.in-Some-of_word.ensures) stops.1
