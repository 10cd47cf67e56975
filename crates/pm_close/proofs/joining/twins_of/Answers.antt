use Rattle.std.proofs.Common.{◌≡◌, ℕ, length, ap, arith}
use Rattle.pm_close.proofs.JoiningSteps.{joined_more, joined_all, entry_is, pair_within, free_within}
use Rattle.pm_close.proofs.joining.twins_of.Goals as goal

pub index_mut-requires : goal.index_mut-requires
index_mut-requires c =
    let here = entry_is _ _ c.loop-pair.pair-index c.pairs-pair-items.ensures c.loop-pair-test.true in
    omega (arith, (pair_within _ _ _ (c.requires.pairing.sound _ _ _ here)).0, c.loop-pair.invariant.as_long)

pub index_mut-requires-in-loop-pair : goal.index_mut-requires-in-loop-pair
index_mut-requires-in-loop-pair c =
    let here = entry_is _ _ c.loop-pair.pair-index c.pairs-pair-items.ensures c.loop-pair-test.true in
    omega (arith, (pair_within _ _ _ (c.requires.pairing.sound _ _ _ here)).1, c.loop-pair.invariant.as_long)

pub loop-pair-preserved : goal.loop-pair-preserved
loop-pair-preserved c =
    let here = entry_is _ _ c.loop-pair.pair-index c.pairs-pair-items.ensures c.loop-pair-test.true in
    joined_more _ _ c.loop-pair.twins.items c.args.pairing.now c.loop-pair.pair-index _ _ c.requires.pairing here c.loop-pair.invariant

pub index_mut-requires-3 : goal.index_mut-requires-3
index_mut-requires-3 c =
    let second = ap (λ (p : ℕ × ℕ). p.1) c.free-first.ensures in
    omega (arith, second, free_within _ _ c.requires.pairing.free.second_is, c.loop-pair.invariant.as_long)

pub returns : goal.returns
returns c =
    let all : c.loop-pair.pair-index ≡ length c.args.pairing.now.pairs = omega (arith, ap length c.pairs-pair-items.ensures, c.loop-pair-test.false, c.loop-pair.auto.pair-index-end) in
    joined_all c.args.tree.now c.args.across.now c.args.pairing.now c.letters-letters.ensures.valid.in_order.letters c.requires.bracketing c.requires.pairing
    c.loop-pair.twins.items c.loop-pair.pair-index c.free-first.result.0 c.free-first.result.1 all
    (ap (λ (p : ℕ × ℕ). p.0) c.free-first.ensures) (ap (λ (p : ℕ × ℕ). p.1) c.free-first.ensures) c.loop-pair.invariant
