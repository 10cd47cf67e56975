use Rattle.std.proofs.Common.{subst, sym, arith}
use Rattle.pm_pool.specs.Region.{IsAlone, IsLive}
use Rattle.pm_pool.proofs.Regions.{spare-below, store-given}
use Rattle.pm_pool.proofs.pool.Pool.give.Goals as goal

pub index_mut-requires-2 : goal.index_mut-requires-2
index_mut-requires-2 c =
    let below = spare-below _ _ _ c.args.d c.self.invariant (subst (λ r. IsLive r c.args.d) (sym c.self.view_is) c.requires.live) in
    omega (arith, below, c.self.invariant.free.as_long)

pub overflow_add-self : goal.overflow_add-self
overflow_add-self c =
    let below = spare-below _ _ _ c.args.d c.self.invariant (subst (λ r. IsLive r c.args.d) (sym c.self.view_is) c.requires.live) in
    omega (arith, below, c.self.invariant.region.few)

pub invariant_of-self : goal.invariant_of-self
invariant_of-self c = store-given _ _ _ _ c.self.invariant (subst (λ r. IsLive r c.args.d) (sym c.self.view_is) c.requires.live)
    (subst (λ r. IsAlone r c.args.d) (sym c.self.view_is) c.requires.alone)
