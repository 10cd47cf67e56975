use Rattle.std.proofs.Common.{[], ◌+◌}
use Rattle.std.proofs.lemmas.List.{take_rest}
use Rattle.pm_lists.proofs.NumberLemmas.{no_number_follows, no_space_follows, reading_more}
use Rattle.pm_lists.proofs.read.read_numbers.Goals as goal

pub returns-then-bytes-place-ne32-clause-text : goal.returns-then-bytes-place-ne32-clause-text
returns-then-bytes-place-ne32-clause-text c = λ _.
    no_space_follows c.args.bytes.now c.numbers.place c.numbers.values.items c.numbers.invariant c.numbers-test.true c.if-bytes-place-ne32.true

pub returns-in_default-clause-text : goal.returns-in_default-clause-text
returns-in_default-clause-text c = λ _.
    no_number_follows c.args.bytes.now c.numbers.place c.numbers.values.items c.numbers.invariant c.numbers-test.true c.if-bytes-place-ne32.false
    (rw (take_rest c.args.bytes.now (c.numbers.place + 1)) at c.in_default.ensures)

pub numbers-preserved : goal.numbers-preserved
numbers-preserved c =
    rw c.in_ok-push_value.ensures
    (reading_more [] c.args.bytes.now c.numbers.place c.numbers.values.items c.in-Some.number.value c.in-Some.number.length c.numbers.invariant c.numbers-test.true c.if-bytes-place-ne32.false
    (rw (take_rest c.args.bytes.now (c.numbers.place + 1)) at c.in-Some.ensures))
