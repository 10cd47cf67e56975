use Rattle.std.proofs.Common.{◌≡◌, ◌+◌, ◌-◌, get_or, subst, sym, arith}
use Rattle.pm_lists.specs.steps.Numbers.{ArePut}
use Rattle.pm_lists.proofs.NumberLemmas.{put_none, room_for, put_more}
use Rattle.pm_mapfile.proofs.PrintLemmas.{darts_fit}
use Rattle.pm_mapfile.proofs.write.put_darts.Goals as goal

pub darts-init : goal.darts-init
darts-init c = put_none c.args.darts.now c.args.piece.now (darts_fit c.args.darts.now c.args.piece.now c.requires (λ k. omega (arith, c.type_inv.darts k)))

pub write_digits-start-requires : goal.write_digits-start-requires
write_digits-start-requires c =
    let left = c.darts.left - 1 in
    let is : left + 1 ≡ c.darts.left = omega (arith, c.darts-test.true) in
    let dart : c.from.result ≡ get_or c.args.darts.now left 0 = c.from.ensures in
    let room = room_for c.args.darts.now c.darts.piece left c.darts.start (subst (λ n. ArePut c.args.darts.now c.darts.piece n c.darts.start) (sym is) c.darts.invariant) in
    rw dart (omega (arith, room), c.darts.invariant.inside)

pub overflow_sub-start : goal.overflow_sub-start
overflow_sub-start c =
    let left = c.darts.left - 1 in
    let is : left + 1 ≡ c.darts.left = omega (arith, c.darts-test.true) in
    let dart : c.from.result ≡ get_or c.args.darts.now left 0 = c.from.ensures in
    let room = room_for c.args.darts.now c.darts.piece left c.darts.start (subst (λ n. ArePut c.args.darts.now c.darts.piece n c.darts.start) (sym is) c.darts.invariant) in
    omega (arith, room, rw dart at c.write_digits-start.ensures.start)

pub darts-preserved : goal.darts-preserved
darts-preserved c =
    let left = c.darts.left - 1 in
    let is : left + 1 ≡ c.darts.left = omega (arith, c.darts-test.true) in
    let dart : c.from.result ≡ get_or c.args.darts.now left 0 = c.from.ensures in
    put_more c.args.darts.now c.darts.piece c.write_digits-start.new.buf left c.darts.start c.write_digits-start.result (subst (λ n. ArePut c.args.darts.now c.darts.piece n c.darts.start) (sym is) c.darts.invariant)
    (rw dart at c.write_digits-start.ensures.start) (rw dart at c.write_digits-start.ensures.written) c.write_digits-start.auto.buf
