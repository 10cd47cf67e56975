use Rattle.std.proofs.Common.{ap, length, length-append, arith}
use Rattle.std.specs.Prelude.{None, Some}
use Rattle.std.proofs.lemmas.Bool.Decides.{Decides-eqb}
use Rattle.std.proofs.lemmas.Slice.Eq.{strip_prefix_is}
use Rattle.pm_cli.proofs.StoppingWords.{empty, filled}
use Rattle.pm_cli.proofs.first_line.after_tag.Goals as goal

pub returns-in_err-word : goal.returns-in_err-word
returns-in_err-word c = rw c.from_residual.ensures (λ word some e. strip_prefix_is Decides-eqb c.args.text.now c.args.tag.now None c.in_err-word.ensures.cases word e)

pub returns-then-is_empty : goal.returns-then-is_empty
returns-then-is_empty c word some e =
    let is = strip_prefix_is Decides-eqb c.args.text.now c.args.tag.now (Some c.in_ok-word.word) c.in_ok-word.ensures.cases in
    omega (arith, empty _ c.if-is_empty.ensures, ap length is, ap length e, length-append c.args.tag.now c.in_ok-word.word.now, length-append c.args.tag.now word)

pub returns-else-is_empty : goal.returns-else-is_empty
returns-else-is_empty c = (filled _ c.if-is_empty.ensures, strip_prefix_is Decides-eqb c.args.text.now c.args.tag.now (Some c.in_ok-word.word) c.in_ok-word.ensures.cases)
