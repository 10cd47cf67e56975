use Rattle.std.proofs.Common.{◌≡◌, length, slice_index, ap, ◌∙◌, subst, sym, refl, arith}
use Rattle.pm_pool.specs.Region.{IsLive, Region}
use Rattle.pm_pool.specs.View.{region_of}
use Rattle.pm_pool.proofs.Regions.{linked-removed, live-within, prev-live, relinked-vectors, store-linked}
use Rattle.pm_pool.proofs.pool.Pool.remove.Goals as goal

pub relink-requires-clause-first_inside : goal.relink-requires-clause-first_inside
relink-requires-clause-first_inside c =
    let live : IsLive (region_of c.self.inside) c.args.d = subst (λ r. IsLive r c.args.d) (sym c.self.view_is) c.requires.live in
    let before = prev-live (region_of c.self.inside) (region_of c.self.inside) c.args.d c.index-before.result.now refl c.self.invariant.region live c.index-before.ensures in
    let h = live-within (region_of c.self.inside) c.index-before.result.now before in
    omega (arith, h, c.self.invariant.region.next_length, ap length c.deref_mut.ensures.value)

pub invariant_of-self : goal.invariant_of-self
invariant_of-self c =
    let live : IsLive (region_of c.self.inside) c.args.d = subst (λ r. IsLive r c.args.d) (sym c.self.view_is) c.requires.live in
    let before = prev-live (region_of c.self.inside) (region_of c.self.inside) c.args.d c.index-before.result.now refl c.self.invariant.region live c.index-before.ensures in
    let x = relinked-vectors c.self.inside.next.len c.self.inside.prev.len c.deref_mut.result.now c.self.inside.next.items c.relink.new.next c.relink.new.prev c.self.inside.prev.items c.index-before.result.now c.args.d
    c.relink.ensures c.deref_mut.ensures.value c.self.inside.next.ok.0 c.self.inside.prev.ok.0 (c.relink.auto.prev ∙ ap length c.deref_mut-2.ensures.value) in
    store-linked _ _ _ _ _ _ _ c.self.invariant before live x

pub returns : goal.returns
returns c =
    let live : IsLive (region_of c.self.inside) c.args.d = subst (λ r. IsLive r c.args.d) (sym c.self.view_is) c.requires.live in
    let before = prev-live (region_of c.self.inside) (region_of c.self.inside) c.args.d c.index-before.result.now refl c.self.invariant.region live c.index-before.ensures in
    let x = relinked-vectors c.self.inside.next.len c.self.inside.prev.len c.deref_mut.result.now c.self.inside.next.items c.relink.new.next c.relink.new.prev c.self.inside.prev.items c.index-before.result.now c.args.d
    c.relink.ensures c.deref_mut.ensures.value c.self.inside.next.ok.0 c.self.inside.prev.ok.0 (c.relink.auto.prev ∙ ap length c.deref_mut-2.ensures.value) in
    linked-removed _ _ _ _ _ _ c.self.view_is c.self.invariant.region before live c.index-before.ensures (subst (λ (r : Region). slice_index r.twin c.args.d ≡ c.args.d) (sym c.self.view_is) c.requires.stem) x
