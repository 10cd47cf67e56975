use Rattle.std.proofs.Common.{ℕ, List, ◌∷◌, length, length-append, ap, subst, arith}
use Rattle.pm_text.specs.Broken.{newline}
use Rattle.pm_cli.specs.steps.FirstLine.{IsFirstLine, no_line, no_tag}
use Rattle.pm_cli.proofs.first_line.word_line.Goals as goal

pub returns-in_err-line : goal.returns-in_err-line
returns-in_err-line c = rw c.from_residual.ensures (no_line c.in_err-line.ensures)

pub returns-in_err-word : goal.returns-in_err-word
returns-in_err-word c = rw c.from_residual-in_err-word.ensures (no_tag c.in_ok-line.line.text.now c.in_ok-line.line.is_alone c.in_ok-line.ensures c.in_err-word.ensures)

pub returns : goal.returns
returns c =
    let line = c.in_ok-line.ensures in
    record {
      line = subst (λ (text : List ℕ). IsFirstLine c.args.bytes.now text c.in_ok-line.line.is_alone) c.in_ok-word.ensures.1 line;
      some = c.in_ok-word.ensures.0;
      within = omega (
        arith,
        ap length line.whole,
        length-append c.in_ok-line.line.text.now (newline ∷ line.rest),
        ap length c.in_ok-word.ensures.1,
        length-append c.args.tag.now c.in_ok-word.word.now,
      );
    }
