use Rattle.std.proofs.Common.{◌≡◌, ℕ, ◌+◌, ◌/◌, length, subst, refl, nat_lt, arith, rules}
use Rattle.pm_lehmer.proofs.Halving.{IsPutDownTo, IsPutDownTo-whole, IsPutDownTo-step, IsHalved, halved}
use Rattle.pm_lehmer.proofs.counts.put.Goals as goal

pub halving-init : goal.halving-init
halving-init c =
    let whole : 0 + length c.args.counts.now ≡ length c.args.counts.now = omega arith in
    record { down = rw whole (IsPutDownTo-whole _ _ _ c.requires.inside); power = c.requires.power }

pub halving-preserved : goal.halving-preserved
halving-preserved c =
    let half : IsHalved c.halving.width = halved c.halving.width c.halving.invariant.power c.halving-test.true in
    let down = subst (λ (width : ℕ). IsPutDownTo c.args.counts.now c.halving.counts c.args.number c.args.many c.halving.low (c.halving.low + width) c.halving.smaller) half.whole c.halving.invariant.down in
    let step = IsPutDownTo-step _ _ _ _ _ _ _ (nat_lt c.args.number (c.halving.low + c.halving.width / 2)) down half.positive refl (search rules) in
    record { down = rw (c.if_less.ensures.value, c.if_less-in-halving.ensures.value, c.if_less-in-halving-2.ensures.value) step; power = half.power }
