use Rattle.std.proofs.Common.{arith}
use Rattle.pm_text.proofs.LeadingLemmas.{reads_more, leading_fits}
use Rattle.pm_text.proofs.leading.more_digits.Goals as goal

pub returns-in_err-checked_mul : goal.returns-in_err-checked_mul
returns-in_err-checked_mul c =
    rw c.from_residual.ensures (λ value count is.
    c.in_err-checked_mul.ensures (omega (arith, leading_fits c.args.bytes.now c.digits.length c.digits.value value count c.digits.invariant c.in-Some.ensures.0 is)))

pub returns-in_err-value : goal.returns-in_err-value
returns-in_err-value c =
    rw c.from_residual-in_err-value.ensures (λ value count is.
    c.in_err-value.ensures (omega (
      arith,
      leading_fits c.args.bytes.now c.digits.length c.digits.value value count c.digits.invariant c.in-Some.ensures.0 is,
      c.in-Some.ensures.1,
      c.in_ok-checked_mul.ensures,
      c.from.ensures,
    )))

pub digits-preserved : goal.digits-preserved
digits-preserved c =
    reads_more c.args.bytes.now c.digits.length c.digits.value c.in_ok-value.value c.digits.invariant c.in-Some.ensures.0
    (omega (arith, c.in_ok-checked_mul.ensures, c.from.ensures, c.in_ok-value.ensures, c.in-Some.ensures.1)) (omega (arith, c.in_ok-value.ensures))
