use Rattle.std.proofs.Common.{◌≡◌, ℕ, ◌-◌, suc, length, List, refl, sym, subst, reverse, slice_index, arith}
use Rattle.pm_trees.specs.Blossoming.{IsBlossoming}
use Rattle.pm_planting.specs.Kinds.{IsWordOfKinds}
use Rattle.pm_planting.specs.declared.kind.Kind.{Kind}
use Rattle.pm_planting.proofs.ReadingSteps.{IsReadFrom, read_none, read_open, read_leaf, read_other, read_whole, pattern_within, pattern_at_root}
use Rattle.pm_planting.proofs.reading.kinds_of_tree.Goals as goal

pub back-init : goal.back-init
back-init c = read_none c.letters-letters.result.now (length c.letters-letters.result.now) c.new-entries.result.items c.in_ok-kinds.kinds.items refl c.new-entries.ensures.items c.in_ok-kinds.ensures.items

pub end_node-requires : goal.end_node-requires
end_node-requires c =
    let e : suc (c.back.place - 1) ≡ c.back.place = (let some = c.back-test.true in omega (arith, some)) in
    pattern_within c.letters-letters.result.now (c.back.place - 1) c.back.entries.items c.back.kinds.items (subst IsBlossoming (sym c.letters-letters.ensures.letters) c.letters-letters.ensures.valid)
    (subst (λ (k : ℕ). IsReadFrom c.letters-letters.result.now k c.back.entries.items c.back.kinds.items) (sym e) c.back.invariant) (omega arith) c.if-letter-eq-OPEN.true

pub back-preserved-in_ok-push-2 : goal.back-preserved-in_ok-push-2
back-preserved-in_ok-push-2 c =
    let e : suc (c.back.place - 1) ≡ c.back.place = (let some = c.back-test.true in omega (arith, some)) in
    read_open c.letters-letters.result.now (c.back.place - 1) (slice_index c.letters-letters.result.now (c.back.place - 1)) c.back.entries.items c.push-then-letter-eq-OPEN.new.self.items c.back.kinds.items c.push.new.self.items
    (omega arith) refl (subst (λ (k : ℕ). IsReadFrom c.letters-letters.result.now k c.back.entries.items c.back.kinds.items) (sym e) c.back.invariant)
    c.in_ok-end_node.field-0 c.end_node.new.entries.items c.if-letter-eq-OPEN.true c.in_ok-end_node.ensures.kind c.in_ok-end_node.ensures.rest c.in_ok-push-2.ensures.items c.in_ok-push.ensures.items

pub back-preserved-in_ok-push-4 : goal.back-preserved-in_ok-push-4
back-preserved-in_ok-push-4 c =
    let e : suc (c.back.place - 1) ≡ c.back.place = (let some = c.back-test.true in omega (arith, some)) in
    read_leaf c.letters-letters.result.now (c.back.place - 1) (slice_index c.letters-letters.result.now (c.back.place - 1)) c.back.entries.items c.push-then-letter-eq-LEAF-2.new.self.items c.back.kinds.items c.push-then-letter-eq-LEAF.new.self.items
    (omega arith) refl (subst (λ (k : ℕ). IsReadFrom c.letters-letters.result.now k c.back.entries.items c.back.kinds.items) (sym e) c.back.invariant)
    c.if-letter-eq-LEAF.true c.in_ok-push-4.ensures.items c.in_ok-push-3.ensures.items

pub back-preserved : goal.back-preserved
back-preserved c =
    let e : suc (c.back.place - 1) ≡ c.back.place = (let some = c.back-test.true in omega (arith, some)) in
    read_other c.letters-letters.result.now (c.back.place - 1) (slice_index c.letters-letters.result.now (c.back.place - 1)) c.back.entries.items c.push-else-letter-eq-LEAF.new.self.items c.back.kinds.items c.back.kinds.items
    (omega arith) refl (subst (λ (k : ℕ). IsReadFrom c.letters-letters.result.now k c.back.entries.items c.back.kinds.items) (sym e) c.back.invariant)
    (subst IsBlossoming (sym c.letters-letters.ensures.letters) c.letters-letters.ensures.valid) c.if-letter-eq-OPEN.false c.if-letter-eq-LEAF.false c.in_ok-push-5.ensures.items refl

pub end_node-requires-2 : goal.end_node-requires-2
end_node-requires-2 c =
    let none : c.back.place ≡ 0 = (let n = c.back-test.false in omega (arith, n)) in
    pattern_at_root c.letters-letters.result.now c.back.entries.items c.back.kinds.items (subst IsBlossoming (sym c.letters-letters.ensures.letters) c.letters-letters.ensures.valid)
    (subst (λ (k : ℕ). IsReadFrom c.letters-letters.result.now k c.back.entries.items c.back.kinds.items) none c.back.invariant)

pub returns : goal.returns
returns c =
    let none : c.back.place ≡ 0 = (let n = c.back-test.false in omega (arith, n)) in
    let done = read_whole c.letters-letters.result.now c.back.entries.items c.back.kinds.items c.push-2.new.self.items c.in_ok-end_node-2.field-0 (subst IsBlossoming (sym c.letters-letters.ensures.letters) c.letters-letters.ensures.valid)
    (subst (λ (k : ℕ). IsReadFrom c.letters-letters.result.now k c.back.entries.items c.back.kinds.items) none c.back.invariant) c.in_ok-end_node-2.ensures.kind c.in_ok-push-6.ensures.items in
    subst (λ (kinds : List Kind). IsWordOfKinds kinds c.args.tree.now) (sym c.reverse.ensures.items)
    (subst (IsWordOfKinds (reverse c.push-2.new.self.items)) c.letters-letters.ensures.letters done)
