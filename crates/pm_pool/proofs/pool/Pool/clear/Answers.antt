use Rattle.std.proofs.Common.{◌≡◌, ◌∙◌, false, length, replicate, ap, subst, arith}
use Rattle.std.proofs.lemmas.List.{length-replicate}
use Rattle.pm_pool.specs.Region.{room}
use Rattle.pm_pool.specs.steps.Free.{IsStore}
use Rattle.pm_pool.specs.View.{region_of}
use Rattle.pm_pool.proofs.Regions.{cleared-now, none-live, numbers-refilled, store-cleared}
use Rattle.pm_pool.proofs.pool.Pool.clear.Goals as goal

pub invariant_of-self : goal.invariant_of-self
invariant_of-self c =
    let dead : c.fill.new.self.items ≡ replicate c.self.inside.live.len false = c.fill.ensures.items (λ y e. e) in
    let w = c.self.invariant.region in
    let cleared = store-cleared c.fill.new.self.items _ _ _ _ (room (region_of c.self.inside))
    (ap length dead ∙ length-replicate c.self.inside.live.len false ∙ c.self.inside.live.ok.0) w.few (none-live _ _ dead)
    (numbers-refilled c.self.inside.next.len (room (region_of c.self.inside)) c.self.inside.next.items c.deref_mut.result.now c.write_numbers.new.numbers c.self.inside.next.ok.0
    c.deref_mut.ensures.value w.next_length c.write_numbers.ensures)
    (numbers-refilled c.self.inside.prev.len (room (region_of c.self.inside)) c.self.inside.prev.items c.deref_mut-2.result.now c.write_numbers-2.new.numbers c.self.inside.prev.ok.0
    c.deref_mut-2.ensures.value (w.inverse.same_length ∙ w.next_length) c.write_numbers-2.ensures)
    (numbers-refilled c.self.inside.twin.len (room (region_of c.self.inside)) c.self.inside.twin.items c.deref_mut-3.result.now c.write_numbers-3.new.numbers c.self.inside.twin.ok.0
    c.deref_mut-3.ensures.value w.twin_length c.write_numbers-3.ensures)
    (numbers-refilled c.self.inside.free.len (room (region_of c.self.inside)) c.self.inside.free.items c.deref_mut-4.result.now c.write_numbers-4.new.numbers c.self.inside.free.ok.0
    c.deref_mut-4.ensures.value c.self.invariant.free.as_long c.write_numbers-4.ensures) in
    let size : room (region_of c.self.inside) ≡ c.len.result = omega (arith, c.len.ensures, c.fill.ensures.len, c.self.inside.live.ok.0) in
    subst (IsStore _ _) size cleared.0

pub returns : goal.returns
returns c =
    let dead : c.fill.new.self.items ≡ replicate c.self.inside.live.len false = c.fill.ensures.items (λ y e. e) in
    let w = c.self.invariant.region in
    let cleared = store-cleared c.fill.new.self.items _ _ _ _ (room (region_of c.self.inside))
    (ap length dead ∙ length-replicate c.self.inside.live.len false ∙ c.self.inside.live.ok.0) w.few (none-live _ _ dead)
    (numbers-refilled c.self.inside.next.len (room (region_of c.self.inside)) c.self.inside.next.items c.deref_mut.result.now c.write_numbers.new.numbers c.self.inside.next.ok.0
    c.deref_mut.ensures.value w.next_length c.write_numbers.ensures)
    (numbers-refilled c.self.inside.prev.len (room (region_of c.self.inside)) c.self.inside.prev.items c.deref_mut-2.result.now c.write_numbers-2.new.numbers c.self.inside.prev.ok.0
    c.deref_mut-2.ensures.value (w.inverse.same_length ∙ w.next_length) c.write_numbers-2.ensures)
    (numbers-refilled c.self.inside.twin.len (room (region_of c.self.inside)) c.self.inside.twin.items c.deref_mut-3.result.now c.write_numbers-3.new.numbers c.self.inside.twin.ok.0
    c.deref_mut-3.ensures.value w.twin_length c.write_numbers-3.ensures)
    (numbers-refilled c.self.inside.free.len (room (region_of c.self.inside)) c.self.inside.free.items c.deref_mut-4.result.now c.write_numbers-4.new.numbers c.self.inside.free.ok.0
    c.deref_mut-4.ensures.value c.self.invariant.free.as_long c.write_numbers-4.ensures) in
    cleared-now _ _ _ c.self.view_is cleared.1
