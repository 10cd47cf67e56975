use Rattle.std.proofs.Common.{◌≡◌, ◌+◌, ◌*◌, ◌/◌, ◌%◌, arith, slice_index}
use Rattle.std.specs.Int.{bit_at}
use Rattle.std.proofs.lemmas.Nat.Bits.{shr_and_one, bit_at-lt}
use Rattle.pm_lehmer.proofs.Ones.{set_bit}
use Rattle.pm_lehmer.proofs.Held.{IsHeld-more}
use Rattle.pm_lehmer.proofs.sets.insert.Goals as goal

pub overflow_add-result : goal.overflow_add-result
overflow_add-result c = omega (arith, c.put.ensures.bounded, c.ones_below.ensures.at_most)

pub returns-clause-held : goal.returns-clause-held
returns-clause-held c = λ below more held one.
    let number : c.args.number ≡ 64 * (c.args.number / 64) + c.args.number % 64 = omega arith in
    let before = slice_index c.args.words.now (c.args.number / 64) in
    let unset : bit_at before (c.args.number % 64) ≡ 0 = omega (arith, shr_and_one before (c.args.number % 64), bit_at-lt before (c.args.number % 64), c.if-before-bit-eq1.false) in
    IsHeld-more _ _ _ c.args.number (c.args.number / 64) (c.args.number % 64) _ below more held number (omega arith) (omega arith) one (set_bit before (c.args.number % 64) (omega arith) unset) c.put.ensures.counted
