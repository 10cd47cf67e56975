use Rattle.std.proofs.Common.{refl, sym, ap, ◌∙◌, subst, arith}
use Rattle.pm_text.specs.Broken.{HasNoNewline}
use Rattle.pm_text.specs.Reading.{Reading}
use Rattle.pm_text.proofs.LineLemmas.{HasNoNewline-nil}
use Rattle.pm_cli.proofs.FirstLines.{unended, ended_line}
use Rattle.pm_cli.proofs.first_line.first_line.Goals as goal

pub returns-in_err-line : goal.returns-in_err-line
returns-in_err-line c =
    let all = ap (λ (r : Reading). r.rest) c.new-lines.ensures in
    rw c.from_residual.ensures (subst HasNoNewline (sym (sym all ∙ c.in_err-line.ensures.none.0 refl)) HasNoNewline-nil)

pub returns-then-not-line : goal.returns-then-not-line
returns-then-not-line c =
    let next = rw c.new-lines.ensures at c.in_ok-line.ensures.cases in
    unended _ _ _ _ _ c.if-not-line.true next

pub returns : goal.returns
returns c =
    let next = rw c.new-lines.ensures at c.in_ok-line.ensures.cases in
    ended_line _ _ _ _ _ c.is_none.result c.if-not-line.false next (λ alone. c.next-2.ensures.none.0 (grind arith)) (λ more none. grind arith)
