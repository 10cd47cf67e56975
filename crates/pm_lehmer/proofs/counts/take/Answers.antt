use Rattle.std.proofs.Common.{◌≡◌, ℕ, ◌+◌, ◌/◌, length, slice_index, subst, refl, nat_lt, arith}
use Rattle.std.proofs.lemmas.Nat.{pow_pos}
use Rattle.pm_lehmer.proofs.Halving.{IsTakenDownTo, IsTakenDownTo-whole, IsTakenDownTo-step, IsHalved, halved}
use Rattle.pm_lehmer.proofs.counts.take.Goals as goal

pub halving-init : goal.halving-init
halving-init c =
    let whole : 0 + length c.args.counts.now ≡ length c.args.counts.now = omega arith in
    record { down = rw whole (IsTakenDownTo-whole _ _ (omega (arith, c.requires.power.1, pow_pos c.requires.power.0))); power = c.requires.power }

pub if_less-requires-clause-low : goal.if_less-requires-clause-low
if_less-requires-clause-low c = omega (arith, c.halving.invariant.down.small)

pub if_less-requires-in-halving-clause-low : goal.if_less-requires-in-halving-clause-low
if_less-requires-in-halving-clause-low c = omega (arith, c.halving.invariant.down.small)

pub if_less-requires-in-halving-2-clause-low : goal.if_less-requires-in-halving-2-clause-low
if_less-requires-in-halving-2-clause-low c = omega (arith, c.halving.invariant.down.small)

pub halving-preserved : goal.halving-preserved
halving-preserved c =
    let half : IsHalved c.halving.width = halved c.halving.width c.halving.invariant.power c.halving-test.true in
    let down = subst (λ (width : ℕ). IsTakenDownTo c.args.counts.now c.halving.counts c.halving.low (c.halving.low + width) c.args.rank c.halving.left) half.whole c.halving.invariant.down in
    let step = IsTakenDownTo-step _ _ _ _ _ _ (nat_lt c.halving.left (slice_index c.halving.counts (c.halving.low + c.halving.width / 2))) down half.positive refl in
    record { down = rw (c.if_less.ensures.value, c.if_less-in-halving.ensures.value, c.if_less-in-halving-2.ensures.value) step; power = half.power }
