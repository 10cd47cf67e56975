use Rattle.std.proofs.Common.{◌≡◌, ◌∙◌, false, length, replicate, ap, arith}
use Rattle.std.proofs.lemmas.List.{length-replicate}
use Rattle.pm_pool.proofs.Regions.{none-live, store-cleared}
use Rattle.pm_pool.proofs.pool.Pool.with_room.Goals as goal

pub invariant_of-result : goal.invariant_of-result
invariant_of-result c =
    let dead : c.in_ok-live.live.items ≡ replicate c.args.darts false = c.in_ok-live.ensures.items_if_clones_equal (λ y e. e) in
    (store-cleared _ _ _ _ _ c.args.darts (ap length dead ∙ length-replicate c.args.darts false) (omega arith) (none-live _ _ dead)
    c.in_ok-next.ensures c.in_ok-prev.ensures c.in_ok-twin.ensures c.in_ok-free.ensures).0
