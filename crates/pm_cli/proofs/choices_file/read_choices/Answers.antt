use Rattle.std.proofs.Common.{sym, subst}
use Rattle.pm_cli.specs.Sampling.{IsChoicesLine, IsChoicesFile}
use Rattle.pm_cli.specs.steps.ChoicesFile.{broken}
use Rattle.pm_cli.proofs.ChoicesLines.{choices_form, line_of, no_choices}
use Rattle.pm_cli.proofs.FirstLines.{no_first_line, only_line, second_line, wrong_line}
use Rattle.pm_cli.proofs.choices_file.read_choices.Goals as goal

pub returns-in_default : goal.returns-in_default
returns-in_default c = broken 1 (no_first_line IsChoicesFile choices_form c.args.bytes.now c.in_default.ensures)

pub returns-then-line : goal.returns-then-line
returns-then-line c =
    subst (IsChoicesLine c.in-Ok.choices) (sym (only_line IsChoicesFile choices_form c.args.bytes.now c.in-Some.line.text.now c.in-Some.line.is_alone c.in-Some.ensures c.if-line.true))
    (line_of c.in-Some.line.text.now c.in-Ok.choices c.in-Ok.ensures.ok)

pub returns-in-Err-Text : goal.returns-in-Err-Text
returns-in-Err-Text c =
    broken 1 (wrong_line IsChoicesFile choices_form c.args.bytes.now c.in-Some.line.text.now c.in-Some.line.is_alone c.in-Some.ensures
    (no_choices c.in-Some.line.text.now (c.in-Err-Text.ensures.text c.in-Err-Text.field-0-is)))

pub returns-else-line : goal.returns-else-line
returns-else-line c =
    broken 2 (second_line IsChoicesFile choices_form c.args.bytes.now c.in-Some.line.text.now c.in-Some.line.is_alone c.in-Some.ensures c.if-line.false
    (c.in-Ok.choices, line_of c.in-Some.line.text.now c.in-Ok.choices c.in-Ok.ensures.ok))
