use Rattle.std.proofs.Common.{◌≡◌, ◌+◌, ◌/◌, ◌%◌, ℕ, suc, length, slice_index, set, subst, sym, arith, length-set, get_or-set_same}
use Rattle.pm_remy.specs.Growth.{grafted, grown_by}
use Rattle.pm_remy.specs.steps.Linked.{ArePlaces}
use Rattle.pm_remy.proofs.Placing.{start-placed, placed-more}
use Rattle.pm_remy.proofs.Unwinding.{leaves-grown_by}
use Rattle.pm_remy.proofs.growth.add_leaves.Goals as goal

pub bounds-places-0 : goal.bounds-places-0
bounds-places-0 c = omega arith

pub loop-k-init : goal.loop-k-init
loop-k-init c =
    let P = c.args.places.now in
    start-placed (set P 0 0) c.args.choices.now (omega (arith, length-set P 0 0)) (get_or-set_same P 0 0 0 (omega arith))

pub add_leaf-requires : goal.add_leaf-requires
add_leaf-requires c =
    let places = length-set c.args.places.now 0 0 in
    let size = leaves-grown_by c.args.choices.now c.loop-k.k c.requires.valid (omega arith) in
    record {
      label_in = omega arith;
      places_long = omega arith;
      places_fit = omega arith;
      node_in = omega (arith, c.requires.valid c.loop-k.k c.loop-k-test.true);
      tree = (grown_by c.args.choices.now c.loop-k.k, (c.loop-k.invariant, omega arith));
    }

pub loop-k-preserved : goal.loop-k-preserved
loop-k-preserved c =
    let cs = c.args.choices.now in
    let k = c.loop-k.k in
    let size = leaves-grown_by cs k c.requires.valid (omega arith) in
    let same : k + 1 ≡ suc k = omega arith in
    let grown = c.add_leaf.ensures (grown_by cs k) c.loop-k.invariant (omega arith) in
    subst (λ (n : ℕ). ArePlaces c.add_leaf.new.places (grown_by cs n)) (sym same)
    (placed-more c.add_leaf.new.places cs k
    (subst (λ (n : ℕ). ArePlaces c.add_leaf.new.places (grafted (slice_index cs k / 2) (slice_index cs k % 2) n (grown_by cs k))) same grown))

pub returns : goal.returns
returns c =
    let all : c.loop-k.k ≡ length c.args.choices.now = omega arith in
    subst (λ (n : ℕ). ArePlaces c.loop-k.places (grown_by c.args.choices.now n)) all c.loop-k.invariant
