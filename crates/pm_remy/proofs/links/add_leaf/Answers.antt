use Rattle.std.proofs.Common.{◌-◌, ◌*◌, ℕ, List, slice_index, subst, sym}
use Rattle.pm_remy.specs.Growth.{grafted}
use Rattle.pm_remy.specs.steps.Linked.{ArePlaces}
use Rattle.pm_remy.proofs.Placing.{placed-left, placed-right}
use Rattle.pm_remy.proofs.Stepping.{places_grown}
use Rattle.pm_remy.proofs.links.add_leaf.Goals as goal

pub returns-then-side-eq0 : goal.returns-then-side-eq0
returns-then-side-eq0 c =
    λ t h e.
    let P = c.args.places.now in
    let k = c.args.label in
    let a = c.args.node in
    subst (λ (xs : List ℕ). ArePlaces xs (grafted a c.args.side k t)) (sym c.place_sides.ensures)
    (subst (λ (s : ℕ). ArePlaces (places_grown P (slice_index P a) (2 * k - 1) a (2 * k)) (grafted a s k t)) (sym c.if-side-eq0.true)
    (placed-right P t k a c.requires.label_in c.requires.node_in c.requires.places_long h e))

pub returns-else-side-eq0 : goal.returns-else-side-eq0
returns-else-side-eq0 c =
    λ t h e.
    let P = c.args.places.now in
    let k = c.args.label in
    let a = c.args.node in
    subst (λ (xs : List ℕ). ArePlaces xs (grafted a c.args.side k t)) (sym c.place_sides-else-side-eq0.ensures)
    (placed-left P t k a c.args.side c.if-side-eq0.false c.requires.label_in c.requires.node_in c.requires.places_long h e)
