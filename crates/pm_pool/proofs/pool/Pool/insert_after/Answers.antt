use Rattle.std.proofs.Common.{length, ap, ◌∙◌, subst, sym}
use Rattle.pm_pool.specs.Region.{IsAlone, IsLive}
use Rattle.pm_pool.proofs.Regions.{linked-inserted, relinked-vectors, store-linked}
use Rattle.pm_pool.proofs.pool.Pool.insert_after.Goals as goal

pub invariant_of-self : goal.invariant_of-self
invariant_of-self c =
    let x = relinked-vectors c.self.inside.next.len c.self.inside.prev.len c.deref_mut.result.now c.self.inside.next.items c.relink.new.next c.relink.new.prev c.self.inside.prev.items c.args.at c.args.d
    c.relink.ensures c.deref_mut.ensures.value c.self.inside.next.ok.0 c.self.inside.prev.ok.0 (c.relink.auto.prev ∙ ap length c.deref_mut-2.ensures.value) in
    store-linked _ _ _ _ _ _ _ c.self.invariant (subst (λ r. IsLive r c.args.at) (sym c.self.view_is) c.requires.at) (subst (λ r. IsLive r c.args.d) (sym c.self.view_is) c.requires.live) x

pub returns : goal.returns
returns c =
    let x = relinked-vectors c.self.inside.next.len c.self.inside.prev.len c.deref_mut.result.now c.self.inside.next.items c.relink.new.next c.relink.new.prev c.self.inside.prev.items c.args.at c.args.d
    c.relink.ensures c.deref_mut.ensures.value c.self.inside.next.ok.0 c.self.inside.prev.ok.0 (c.relink.auto.prev ∙ ap length c.deref_mut-2.ensures.value) in
    linked-inserted _ _ _ _ _ _ c.self.view_is c.self.invariant.region (subst (λ r. IsLive r c.args.at) (sym c.self.view_is) c.requires.at) (subst (λ r. IsLive r c.args.d) (sym c.self.view_is) c.requires.live) (subst (λ r. IsAlone r c.args.d) (sym c.self.view_is) c.requires.alone) x
