use Rattle.std.proofs.Common.{◌≡◌, ◌+◌, ◌-◌, subst, sym, arith}
use Rattle.pm_lists.specs.steps.Numbers.{ArePut}
use Rattle.pm_lists.proofs.NumberLemmas.{put_none, room_for, put_more, put_fits}
use Rattle.pm_lists.proofs.put.put_numbers.Goals as goal

pub numbers-init : goal.numbers-init
numbers-init c = put_none c.args.values.now c.args.piece.now (put_fits c.args.values.now c.args.piece.now c.requires (λ k. omega (arith, c.type_inv.values k)))

pub write_digits-start-requires : goal.write_digits-start-requires
write_digits-start-requires c =
    let is : c.numbers.left - 1 + 1 ≡ c.numbers.left = omega (arith, c.numbers-test.true) in
    let room = room_for c.args.values.now c.numbers.piece (c.numbers.left - 1) c.numbers.start (subst (λ n. ArePut c.args.values.now c.numbers.piece n c.numbers.start) (sym is) c.numbers.invariant) in
    (omega (arith, room), c.numbers.invariant.inside)

pub overflow_sub-start : goal.overflow_sub-start
overflow_sub-start c =
    let is : c.numbers.left - 1 + 1 ≡ c.numbers.left = omega (arith, c.numbers-test.true) in
    let room = room_for c.args.values.now c.numbers.piece (c.numbers.left - 1) c.numbers.start (subst (λ n. ArePut c.args.values.now c.numbers.piece n c.numbers.start) (sym is) c.numbers.invariant) in
    omega (arith, room, c.write_digits-start.ensures.start)

pub numbers-preserved : goal.numbers-preserved
numbers-preserved c =
    let is : c.numbers.left - 1 + 1 ≡ c.numbers.left = omega (arith, c.numbers-test.true) in
    put_more c.args.values.now c.numbers.piece c.write_digits-start.new.buf (c.numbers.left - 1) c.numbers.start c.write_digits-start.result
    (subst (λ n. ArePut c.args.values.now c.numbers.piece n c.numbers.start) (sym is) c.numbers.invariant)
    c.write_digits-start.ensures.start c.write_digits-start.ensures.written c.write_digits-start.auto.buf
