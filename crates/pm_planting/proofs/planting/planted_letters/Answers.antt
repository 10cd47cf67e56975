use Rattle.std.proofs.Common.{rules, ℕ, ◌+◌, ◌-◌, ◌*◌, ◌<◌, ◌++◌, List, reverse, ap, ◌∙◌, arith, length, slice_index_or, vec_len}
use Rattle.pm_planting.specs.Kinds.{half_of}
use Rattle.pm_planting.specs.declared.kind.Kind.TheVariants.{Leaf}
use Rattle.pm_planting.proofs.KindLaws.{half_few}
use Rattle.pm_planting.proofs.KindPatterns.{kind_here, no_node}
use Rattle.pm_planting.proofs.PlaneSteps.{root_is_node, begun_start, begun_plain, next_within, begun_leaf, begun_node}
use Rattle.pm_planting.proofs.planting.planted_letters.Goals as goal

pub unreachable-requires : goal.unreachable-requires
unreachable-requires c = root_is_node c.args.kinds.now c.requires.each c.requires.some c.requires.good c.in-Leaf.is

pub letters-init : goal.letters-init
letters-init c =
    let p = c.in_ok-add_pattern-in-Node.ensures.pattern in
    begun_start c.args.kinds.now c.in_ok-letters.letters.items p.0 c.add_pattern.new.ahead.items c.requires.each c.requires.some c.requires.good c.in_ok-letters.ensures.items (kind_here c.in-Node.half c.in-Node.rank (slice_index_or c.args.kinds.now 0 Leaf) p.0 c.in-Node.is p.1)
    (p.2 ∙ ap (λ (xs : List ℕ). xs ++ reverse p.0) c.new-ahead.ensures.items)

pub letters-preserved-then-letter-ne-SLOT : goal.letters-preserved-then-letter-ne-SLOT
letters-preserved-then-letter-ne-SLOT c =
    begun_plain c.args.kinds.now c.letters.letters.items c.letters.ahead.items c.pop.new.self.items c.letters.next c.in-Some.letter c.letters.invariant c.in-Some.ensures.items c.push.new.self.items
    c.if-letter-ne-SLOT.true c.in_ok-push.ensures.items

pub offset_bounds-kinds-next : goal.offset_bounds-kinds-next
offset_bounds-kinds-next c =
    let l = next_within c.args.kinds.now c.letters.letters.items c.letters.ahead.items c.pop.new.self.items c.letters.next c.in-Some.letter c.letters.invariant c.in-Some.ensures.items c.if-letter-ne-SLOT.false in
    search rules

pub bounds-kinds-next : goal.bounds-kinds-next
bounds-kinds-next c =
    next_within c.args.kinds.now c.letters.letters.items c.letters.ahead.items c.pop.new.self.items c.letters.next c.in-Some.letter c.letters.invariant c.in-Some.ensures.items c.if-letter-ne-SLOT.false

pub overflow_add-next : goal.overflow_add-next
overflow_add-next c =
    let l = next_within c.args.kinds.now c.letters.letters.items c.letters.ahead.items c.pop.new.self.items c.letters.next c.in-Some.letter c.letters.invariant c.in-Some.ensures.items c.if-letter-ne-SLOT.false in
    search rules

pub letters-preserved-in_default-kind : goal.letters-preserved-in_default-kind
letters-preserved-in_default-kind c =
    begun_leaf c.args.kinds.now c.letters.letters.items c.letters.ahead.items c.pop.new.self.items c.letters.next c.in-Some.letter c.letters.invariant c.in-Some.ensures.items c.push-in_default-kind.new.self.items (c.letters.next + 1)
    c.if-letter-ne-SLOT.false (no_node (slice_index_or c.args.kinds.now c.letters.next Leaf) c.in_default-kind.not-Node) c.in_ok-push-2.ensures.items (omega arith)

pub letters-smaller : goal.letters-smaller
letters-smaller c =
    let l = next_within c.args.kinds.now c.letters.letters.items c.letters.ahead.items c.pop.new.self.items c.letters.next c.in-Some.letter c.letters.invariant c.in-Some.ensures.items c.if-letter-ne-SLOT.false in
    let few = half_few (slice_index_or c.args.kinds.now c.letters.next Leaf) (c.requires.each c.letters.next Leaf l) in
    let half = ap half_of c.in-Node-kind.is in
    let falls : 65 * (length c.args.kinds.now - (c.letters.next + 1)) + vec_len c.add_pattern-in-Some.new.ahead < 65 * (length c.args.kinds.now - c.letters.next) + vec_len c.letters.ahead =
    omega (arith, l, few, half, c.in_ok-add_pattern.ensures.len, c.in_ok-push-4.ensures.len, c.in-Some.ensures.cases) in falls

pub letters-preserved : goal.letters-preserved
letters-preserved c =
    let p = c.in_ok-add_pattern.ensures.pattern in
    begun_node c.args.kinds.now c.letters.letters.items c.letters.ahead.items c.pop.new.self.items c.letters.next c.in-Some.letter c.letters.invariant c.in-Some.ensures.items c.push-in-Some.new.self.items p.0 c.add_pattern-in-Some.new.ahead.items
    (c.letters.next + 1) c.if-letter-ne-SLOT.false (kind_here c.in-Node-kind.half c.in-Node-kind.rank (slice_index_or c.args.kinds.now c.letters.next Leaf) p.0 c.in-Node-kind.is p.1) c.in_ok-push-3.ensures.items
    (p.2 ∙ ap (λ (xs : List ℕ). xs ++ reverse p.0) c.in_ok-push-4.ensures.items) (omega arith)
