use Rattle.std.proofs.Common.{ℕ, ◌/◌, ◌^◌, subst, refl, nat_lt, arith}
use Rattle.pm_lehmer.specs.steps.Held.{ones_below}
use Rattle.pm_lehmer.proofs.Halving.{IsHalved, halved}
use Rattle.pm_lehmer.proofs.Ones.{IsAmong, IsAmong-whole, IsAmong-step, IsAmong-rank}
use Rattle.pm_lehmer.proofs.bits.bit_of_rank.Goals as goal

pub halving-init : goal.halving-init
halving-init c = IsAmong-whole c.args.word c.args.rank (omega arith) c.requires

pub halving-preserved : goal.halving-preserved
halving-preserved c =
    let half : IsHalved c.halving.width = halved c.halving.width c.halving.invariant.power c.halving-test.true in
    let among = subst (λ (width : ℕ). IsAmong c.args.word c.args.rank c.halving.low width c.halving.left) half.whole c.halving.invariant in
    let step = IsAmong-step c.args.word c.args.rank c.halving.low (c.halving.width / 2) c.halving.left (nat_lt c.halving.left (ones_below (c.args.word / 2 ^ c.halving.low) (c.halving.width / 2))) among half.power refl in
    rw (c.if_less.ensures.value, c.if_less-in-halving.ensures.value, c.ones_below-first_half.ensures.value) step

pub returns : goal.returns
returns c = IsAmong-rank c.args.word c.args.rank c.halving.low c.halving.width c.halving.left c.halving.invariant (omega arith)
