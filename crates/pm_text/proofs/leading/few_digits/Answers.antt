use Rattle.std.proofs.Common.{arith}
use Rattle.pm_text.proofs.LeadingLemmas.{reads_none, reads_more, few_fit}
use Rattle.pm_text.proofs.leading.few_digits.Goals as goal

pub digits-init : goal.digits-init
digits-init c = reads_none c.args.bytes.now

pub digits-preserved : goal.digits-preserved
digits-preserved c =
    let here = c.in-Some.ensures.0 in
    let few = few_fit c.args.bytes.now c.digits.length c.digits.value c.digits.invariant (omega (arith, here.within, c.requires)) in
    reads_more c.args.bytes.now c.digits.length c.digits.value _ c.digits.invariant here (omega (arith, c.in-Some.ensures.1, c.from.ensures)) (omega (arith, few, c.from.ensures, c.in-Some.ensures.1, here.digit))

pub overflow_mul-value : goal.overflow_mul-value
overflow_mul-value c =
    let here = c.in-Some.ensures.0 in
    omega (arith, few_fit c.args.bytes.now c.digits.length c.digits.value c.digits.invariant (omega (arith, here.within, c.requires)))

pub overflow_add-value : goal.overflow_add-value
overflow_add-value c =
    let here = c.in-Some.ensures.0 in
    omega (arith, few_fit c.args.bytes.now c.digits.length c.digits.value c.digits.invariant (omega (arith, here.within, c.requires)), c.from.ensures, c.in-Some.ensures.1, here.digit)
