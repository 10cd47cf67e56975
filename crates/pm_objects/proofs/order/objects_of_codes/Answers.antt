use Rattle.std.proofs.Common.{◌≡◌, ℕ, ◌+◌, ◌-◌, List, ◌++◌, length, take, drop, ap, sym, ◌∙◌, subst, arith}
use Rattle.std.specs.Prelude.{slice_index}
use Rattle.std.proofs.lemmas.List.{take_at}
use Rattle.pm_objects.specs.Codes.{AreObjectsOf}
use Rattle.pm_objects.specs.Objects.{range_at, nodes_of_ranges}
use Rattle.pm_objects.proofs.ObjectCounts.{nodes_counted}
use Rattle.pm_objects.proofs.ObjectsPut.{ArePutBefore, objects_total, before_few, range_slice_long, leaf_slice_long, range_slice_code, leaf_slice_code, range_arities, leaf_arities, put_range, put_leaves}
use Rattle.pm_objects.proofs.order.objects_of_codes.Goals as goal

pub overflow_add-next : goal.overflow_add-next
overflow_add-next c =
    let before = c.each_range.invariant c.requires.some.0 c.requires.some.1 in
    let first_is = before.first_is in
    let within = before_few c.args.ranges.now (length c.args.arities.now - nodes_of_ranges c.args.ranges.now) c.args.arities.now c.args.codes.now c.requires.some.0 c.requires.apart c.requires.some.1
    (objects_total c.args.ranges.now c.args.arities.now c.args.codes.now c.requires.some.0 c.requires.some.1 c.requires.nodes) c.each_range.range-index c.each_range-test.true in
    let few = c.requires.few in
    let nodes = c.requires.nodes in
    omega (arith, within, first_is, few, nodes)

pub slice_bounds-arrange_from-end : goal.slice_bounds-arrange_from-end
slice_bounds-arrange_from-end c =
    let before = c.each_range.invariant c.requires.some.0 c.requires.some.1 in
    let first_is = before.first_is in
    let within = before_few c.args.ranges.now (length c.args.arities.now - nodes_of_ranges c.args.ranges.now) c.args.arities.now c.args.codes.now c.requires.some.0 c.requires.apart c.requires.some.1
    (objects_total c.args.ranges.now c.args.arities.now c.args.codes.now c.requires.some.0 c.requires.some.1 c.requires.nodes) c.each_range.range-index c.each_range-test.true in
    let long = c.requires.as_long in
    let nodes = c.requires.nodes in
    omega (arith, first_is, within, long, nodes)

pub arrange_from-requires-clause-is_code : goal.arrange_from-requires-clause-is_code
arrange_from-requires-clause-is_code c =
    let before = c.each_range.invariant c.requires.some.0 c.requires.some.1 in
    range_slice_code c.args.ranges.now (length c.args.arities.now - nodes_of_ranges c.args.ranges.now) c.args.arities.now c.args.codes.now c.requires.some.0 c.requires.apart c.requires.some.1
    (objects_total c.args.ranges.now c.args.arities.now c.args.codes.now c.requires.some.0 c.requires.some.1 c.requires.nodes) c.each_range.first c.each_range.range-index before.first_is c.each_range-test.true

pub put_objects-requires-clause-many : goal.put_objects-requires-clause-many
put_objects-requires-clause-many c =
    let before = c.each_range.invariant c.requires.some.0 c.requires.some.1 in
    ap length c.deref.ensures.value ∙ c.in_ok-nodes.ensures.long
    ∙ range_slice_long c.args.ranges.now (length c.args.arities.now - nodes_of_ranges c.args.ranges.now) c.args.arities.now c.args.codes.now c.requires.some.0 c.requires.apart c.requires.some.1
    (objects_total c.args.ranges.now c.args.arities.now c.args.codes.now c.requires.some.0 c.requires.some.1 c.requires.nodes) c.each_range.first c.each_range.range-index before.first_is c.each_range-test.true
    ∙ sym (range_arities c.args.ranges.now (length c.args.arities.now - nodes_of_ranges c.args.ranges.now) c.args.arities.now c.args.codes.now c.requires.some.0 c.requires.apart c.requires.some.1
    (objects_total c.args.ranges.now c.args.arities.now c.args.codes.now c.requires.some.0 c.requires.some.1 c.requires.nodes) c.each_range.range-index c.each_range-test.true)

pub each_range-preserved : goal.each_range-preserved
each_range-preserved c = λ objects read.
    let after : List ℕ = c.put_objects.new.objects in
    let before = c.each_range.invariant objects read in
    let back : take c.each_range.objects.len (after ++ drop (length after) c.each_range.objects.items) ≡ after =
    take_at after (drop (length after) c.each_range.objects.items) c.each_range.objects.len (c.put_objects.auto.objects ∙ c.deref_mut.ensures.len) in
    subst (λ (put : List ℕ). ArePutBefore c.args.ranges.now c.args.arities.now objects put (c.each_range.first + (range_at c.args.ranges.now c.each_range.range-index).1) (c.each_range.range-index + 1)) (sym back)
    (put_range c.args.ranges.now (length c.args.arities.now - nodes_of_ranges c.args.ranges.now) c.args.arities.now c.args.codes.now objects c.requires.apart read
    (objects_total c.args.ranges.now c.args.arities.now c.args.codes.now objects read c.requires.nodes) c.deref.result.now c.each_range.objects.items after c.each_range.first c.each_range.range-index before c.each_range-test.true
    (λ order arranged. c.deref.ensures.value ∙ c.in_ok-nodes.ensures.list order arranged) c.put_objects.ensures.as_long c.put_objects.ensures.here
    (λ place inside apart. c.put_objects.ensures.others place inside apart ∙ ap (λ (xs : List ℕ). slice_index xs place) c.deref_mut.ensures.value))

pub slice_bounds-arrange_from-count-2 : goal.slice_bounds-arrange_from-count-2
slice_bounds-arrange_from-count-2 c =
    let before = c.each_range.invariant c.requires.some.0 c.requires.some.1 in
    let first_is = nodes_counted c.args.ranges.now c.each_range.range-index c.each_range.first c.each_range-test.false before.first_is in
    let long = c.requires.as_long in
    let nodes = c.requires.nodes in
    omega (arith, first_is, long, nodes)

pub slice_bounds-arrange_from-start-2 : goal.slice_bounds-arrange_from-start-2
slice_bounds-arrange_from-start-2 c =
    let before = c.each_range.invariant c.requires.some.0 c.requires.some.1 in
    let first_is = nodes_counted c.args.ranges.now c.each_range.range-index c.each_range.first c.each_range-test.false before.first_is in
    let long = c.requires.as_long in
    let nodes = c.requires.nodes in
    omega (arith, first_is, long, nodes)

pub arrange_from-requires-2-clause-few : goal.arrange_from-requires-2-clause-few
arrange_from-requires-2-clause-few c =
    let before = c.each_range.invariant c.requires.some.0 c.requires.some.1 in
    let first_is = nodes_counted c.args.ranges.now c.each_range.range-index c.each_range.first c.each_range-test.false before.first_is in
    let long = leaf_slice_long c.args.ranges.now (length c.args.arities.now - nodes_of_ranges c.args.ranges.now) c.args.arities.now c.args.codes.now c.requires.some.0 c.requires.apart c.requires.some.1
    (objects_total c.args.ranges.now c.args.arities.now c.args.codes.now c.requires.some.0 c.requires.some.1 c.requires.nodes) c.each_range.first first_is in
    let few = c.requires.few in
    let nodes = c.requires.nodes in
    omega (arith, first_is, few, long, nodes)

pub arrange_from-requires-2-clause-is_code : goal.arrange_from-requires-2-clause-is_code
arrange_from-requires-2-clause-is_code c =
    let before = c.each_range.invariant c.requires.some.0 c.requires.some.1 in
    leaf_slice_code c.args.ranges.now (length c.args.arities.now - nodes_of_ranges c.args.ranges.now) c.args.arities.now c.args.codes.now c.requires.some.0 c.requires.apart c.requires.some.1
    (objects_total c.args.ranges.now c.args.arities.now c.args.codes.now c.requires.some.0 c.requires.some.1 c.requires.nodes) c.each_range.first (nodes_counted c.args.ranges.now c.each_range.range-index c.each_range.first c.each_range-test.false before.first_is)

pub put_objects-requires-2-clause-many : goal.put_objects-requires-2-clause-many
put_objects-requires-2-clause-many c =
    let before = c.each_range.invariant c.requires.some.0 c.requires.some.1 in
    ap length c.deref-2.ensures.value ∙ c.in_ok-leaves.ensures.long
    ∙ leaf_slice_long c.args.ranges.now (length c.args.arities.now - nodes_of_ranges c.args.ranges.now) c.args.arities.now c.args.codes.now c.requires.some.0 c.requires.apart c.requires.some.1
    (objects_total c.args.ranges.now c.args.arities.now c.args.codes.now c.requires.some.0 c.requires.some.1 c.requires.nodes) c.each_range.first (nodes_counted c.args.ranges.now c.each_range.range-index c.each_range.first c.each_range-test.false before.first_is)
    ∙ sym (leaf_arities c.args.ranges.now (length c.args.arities.now - nodes_of_ranges c.args.ranges.now) c.args.arities.now c.args.codes.now c.requires.some.0 c.requires.apart c.requires.some.1
    (objects_total c.args.ranges.now c.args.arities.now c.args.codes.now c.requires.some.0 c.requires.some.1 c.requires.nodes))

pub returns : goal.returns
returns c =
    let after : List ℕ = c.put_objects-2.new.objects in
    let before = c.each_range.invariant c.requires.some.0 c.requires.some.1 in
    let back : take c.each_range.objects.len (after ++ drop (length after) c.each_range.objects.items) ≡ after =
    take_at after (drop (length after) c.each_range.objects.items) c.each_range.objects.len (c.put_objects-2.auto.objects ∙ c.deref_mut-2.ensures.len) in
    let same : after ≡ c.requires.some.0 =
    put_leaves c.args.ranges.now (length c.args.arities.now - nodes_of_ranges c.args.ranges.now) c.args.arities.now c.args.codes.now c.requires.some.0 c.requires.apart c.requires.some.1
    (objects_total c.args.ranges.now c.args.arities.now c.args.codes.now c.requires.some.0 c.requires.some.1 c.requires.nodes) c.deref-2.result.now c.each_range.objects.items after c.each_range.first c.each_range.range-index before c.each_range-test.false
    (λ order arranged. c.deref-2.ensures.value ∙ c.in_ok-leaves.ensures.list order arranged) c.put_objects-2.ensures.as_long c.put_objects-2.ensures.here
    (λ place inside apart. c.put_objects-2.ensures.others place inside apart ∙ ap (λ (xs : List ℕ). slice_index xs place) c.deref_mut-2.ensures.value) in
    subst (AreObjectsOf c.args.ranges.now c.args.arities.now c.args.codes.now) (sym (back ∙ same)) c.requires.some.1
