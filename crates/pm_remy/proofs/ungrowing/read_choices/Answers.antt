use Rattle.std.proofs.Common.{◌≡◌, ◌-◌, ◌*◌, ◌<◌, ℕ, suc, Bool, true, false, List, [], ◌∷◌, ◌++◌, length, get_or, slice_index, option_to_list, Option, sym, ap, subst, ◌∙◌, arith}
use Rattle.std.proofs.lemmas.List.{length_push}
use Rattle.pm_remy.specs.Tree.{leaves}
use Rattle.pm_remy.specs.Growth.{IsChoices}
use Rattle.pm_remy.specs.Words.{tree_of, IsWritten}
use Rattle.pm_remy.specs.declared.ungrowing.Subtree.{Subtree}
use Rattle.pm_remy.proofs.Noting.{growth-noted}
use Rattle.pm_remy.proofs.Stacked.{IsGathered, readable-written, IsForkPopped, IsForkRoom, IsForkNoted, AreJoined, fork-count, fork-popped, fork-room, gathered-fork, gathered-leaf, gathered-at, gathered-at_label, label-left, label-low, whole-read, IsWholeRead}
use Rattle.pm_remy.proofs.ungrowing.read_choices.Goals as goal

-- what the two pops give, before a fork
popped : (C : List ℕ) (nodes : List Bool) (labels : List ℕ) (n j : ℕ) (stack first second : List Subtree) (left right : Subtree) → IsWritten nodes labels → 0 < n
    → get_or nodes (n - 1) false ≡ true → IsGathered C nodes labels n j stack → stack ≡ first ++ left ∷ [] → first ≡ second ++ right ∷ []
    → IsForkPopped C nodes labels (n - 1) j second left right
popped C nodes labels n j stack first second left right w q e h top next =
    let r = readable-written nodes labels w in
    let before = gathered-at C nodes labels n (n - 1) j stack (omega arith) h in
    fork-popped C nodes labels (n - 1) j stack first second left right r (omega (arith, h.nodes_left)) e before (record { top = top; next = next })

room : (C : List ℕ) (nodes : List Bool) (labels : List ℕ) (n j : ℕ) (stack first second : List Subtree) (left right : Subtree) → IsWritten nodes labels → 0 < n
    → get_or nodes (n - 1) false ≡ true → IsGathered C nodes labels n j stack → stack ≡ first ++ left ∷ [] → first ≡ second ++ right ∷ []
    → length labels ≡ suc (length C) → IsForkRoom C left right
room C nodes labels n j stack first second left right w q e h top next size =
    fork-room C nodes labels (n - 1) j stack second left right size (gathered-at C nodes labels n (n - 1) j stack (omega arith) h)
    (popped C nodes labels n j stack first second left right w q e h top next)

forked : (C D : List ℕ) (nodes : List Bool) (labels : List ℕ) (n j : ℕ) (stack first second after : List Subtree) (left right s : Subtree) → IsWritten nodes labels → 0 < n
    → get_or nodes (n - 1) false ≡ true → IsGathered C nodes labels n j stack → IsChoices C → stack ≡ first ++ left ∷ [] → first ≡ second ++ right ∷ []
    → length labels ≡ suc (length C) → AreJoined C D left right s → after ≡ second ++ s ∷ []
    → IsForkNoted C D nodes labels (n - 1) j after
forked C D nodes labels n j stack first second after left right s w q e h valid top next size joins pushed =
    let before = gathered-at C nodes labels n (n - 1) j stack (omega arith) h in
    subst (λ (xs : List Subtree). IsForkNoted C D nodes labels (n - 1) j xs) (sym pushed)
    (gathered-fork C D nodes labels (n - 1) j stack second left right s (omega (arith, h.nodes_left)) e size valid before
    (popped C nodes labels n j stack first second left right w q e h top next) joins)

left_over : (C : List ℕ) (nodes : List Bool) (labels : List ℕ) (n j : ℕ) (stack : List Subtree) → IsWritten nodes labels → 0 < n → get_or nodes (n - 1) false ≡ false
    → IsGathered C nodes labels n j stack → 0 < j
left_over C nodes labels n j stack w q e h =
    label-left C nodes labels (n - 1) j stack (readable-written nodes labels w) (omega (arith, h.nodes_left)) e (gathered-at C nodes labels n (n - 1) j stack (omega arith) h)

leafed : (C : List ℕ) (nodes : List Bool) (labels : List ℕ) (n j : ℕ) (stack after : List Subtree) (s : Subtree) → IsWritten nodes labels → 0 < n → get_or nodes (n - 1) false ≡ false
    → IsGathered C nodes labels n j stack → s.root ≡ 2 * slice_index labels (j - 1) → s.least ≡ slice_index labels (j - 1) → after ≡ stack ++ s ∷ []
    → IsGathered C nodes labels (n - 1) (j - 1) after
leafed C nodes labels n j stack after s w q e h root is_least pushed =
    let some = left_over C nodes labels n j stack w q e h in
    let before = gathered-at C nodes labels n (n - 1) j stack (omega arith) h in
    let here = gathered-at_label C nodes labels (suc (n - 1)) j (j - 1) stack (omega arith) before in
    subst (λ (xs : List Subtree). IsGathered C nodes labels (n - 1) (j - 1) xs) (sym pushed)
    (gathered-leaf C nodes labels (n - 1) (j - 1) stack s (omega (arith, h.nodes_left)) e (omega (arith, h.labels_left)) here root is_least)

whole : (C : List ℕ) (nodes : List Bool) (labels : List ℕ) (n j : ℕ) (stack : List Subtree) → IsWritten nodes labels → n ≡ 0 → IsGathered C nodes labels n j stack → IsWholeRead C (tree_of nodes labels) stack
whole C nodes labels n j stack w e h =
    whole-read C nodes labels j stack (readable-written nodes labels w) (subst (λ (m : ℕ). IsGathered C nodes labels m j stack) e h)

pub unwrap-left-requires : goal.unwrap-left-requires
unwrap-left-requires c =
    let r = readable-written c.args.nodes.now c.args.labels.now c.requires.written in
    let i = c.nodes.nodes_left - 1 in
    let h = gathered-at c.nodes.choices c.args.nodes.now c.args.labels.now c.nodes.nodes_left i c.nodes.labels_left c.nodes.subtrees.items (omega arith) c.nodes.invariant.gathered in
    let many = fork-count c.nodes.choices c.args.nodes.now c.args.labels.now i c.nodes.labels_left c.nodes.subtrees.items r (omega (arith, h.nodes_left)) c.if-nodes-nodes_left.true h in
    c.pop.ensures.variant.1 (omega (arith, c.nodes.subtrees.ok.0))

pub unwrap-right-requires : goal.unwrap-right-requires
unwrap-right-requires c =
    let r = readable-written c.args.nodes.now c.args.labels.now c.requires.written in
    let i = c.nodes.nodes_left - 1 in
    let h = gathered-at c.nodes.choices c.args.nodes.now c.args.labels.now c.nodes.nodes_left i c.nodes.labels_left c.nodes.subtrees.items (omega arith) c.nodes.invariant.gathered in
    let many = fork-count c.nodes.choices c.args.nodes.now c.args.labels.now i c.nodes.labels_left c.nodes.subtrees.items r (omega (arith, h.nodes_left)) c.if-nodes-nodes_left.true h in
    let top = c.pop.ensures.items ∙ ap (λ (o : Option Subtree). c.pop.new.self.items ++ option_to_list o) c.unwrap-left.ensures in
    let one = length_push c.pop.new.self.items c.unwrap-left.result in
    c.pop-then-nodes-nodes_left.ensures.variant.1 (omega (arith, ap length top, one, c.pop.new.self.ok.0))

pub note_fork-fork-requires : goal.note_fork-fork-requires
note_fork-fork-requires c =
    let r = readable-written c.args.nodes.now c.args.labels.now c.requires.written in
    let few = r.few in
    let top = c.pop.ensures.items ∙ ap (λ (o : Option Subtree). c.pop.new.self.items ++ option_to_list o) c.unwrap-left.ensures in
    let next = c.pop-then-nodes-nodes_left.ensures.items ∙ ap (λ (o : Option Subtree). c.pop-then-nodes-nodes_left.new.self.items ++ option_to_list o) c.unwrap-right.ensures in
    let has = room c.nodes.choices c.args.nodes.now c.args.labels.now c.nodes.nodes_left c.nodes.labels_left c.nodes.subtrees.items c.pop.new.self.items c.pop-then-nodes-nodes_left.new.self.items c.unwrap-left.result c.unwrap-right.result
    c.requires.written c.nodes-test.true c.if-nodes-nodes_left.true c.nodes.invariant.gathered top next (omega (arith, c.requires.choices_long, c.nodes.auto.choices)) in
    record {
      valid = c.nodes.invariant.valid;
      left_in = has.left_in;
      right_in = has.right_in;
      positive = has.positive;
      label_in = has.label_in;
      label_fits = omega (arith, has.label_in, c.requires.choices_long, c.nodes.auto.choices);
      left_noted = has.left_noted;
      right_noted = has.right_noted;
    }

pub nodes-preserved-in-Continue-1 : goal.nodes-preserved-in-Continue-1
nodes-preserved-in-Continue-1 c =
    let top = c.pop.ensures.items ∙ ap (λ (o : Option Subtree). c.pop.new.self.items ++ option_to_list o) c.unwrap-left.ensures in
    let next = c.pop-then-nodes-nodes_left.ensures.items ∙ ap (λ (o : Option Subtree). c.pop-then-nodes-nodes_left.new.self.items ++ option_to_list o) c.unwrap-right.ensures in
    let after = forked c.nodes.choices c.note_fork-fork.new.choices c.args.nodes.now c.args.labels.now c.nodes.nodes_left c.nodes.labels_left c.nodes.subtrees.items
    c.pop.new.self.items c.pop-then-nodes-nodes_left.new.self.items c.push.new.self.items c.unwrap-left.result c.unwrap-right.result c.note_fork-fork.result
    c.requires.written c.nodes-test.true c.if-nodes-nodes_left.true c.nodes.invariant.gathered c.nodes.invariant.valid top next
    (omega (arith, c.requires.choices_long, c.nodes.auto.choices))
    (record { root = c.note_fork-fork.ensures.root; is_least = c.note_fork-fork.ensures.least; written = c.note_fork-fork.ensures.choices })
    c.in_ok-push.ensures.items in
    record { gathered = after.gathered; valid = after.valid }

pub overflow_sub-labels_left : goal.overflow_sub-labels_left
overflow_sub-labels_left c =
    omega (arith, left_over c.nodes.choices c.args.nodes.now c.args.labels.now c.nodes.nodes_left c.nodes.labels_left c.nodes.subtrees.items c.requires.written c.nodes-test.true c.if-nodes-nodes_left.false c.nodes.invariant.gathered)

pub bounds-labels-labels_left : goal.bounds-labels-labels_left
bounds-labels-labels_left c =
    omega (arith, left_over c.nodes.choices c.args.nodes.now c.args.labels.now c.nodes.nodes_left c.nodes.labels_left c.nodes.subtrees.items c.requires.written c.nodes-test.true c.if-nodes-nodes_left.false c.nodes.invariant.gathered, c.nodes.invariant.gathered.labels_left)

pub leaf-end-requires : goal.leaf-end-requires
leaf-end-requires c =
    let some = left_over c.nodes.choices c.args.nodes.now c.args.labels.now c.nodes.nodes_left c.nodes.labels_left c.nodes.subtrees.items c.requires.written c.nodes-test.true c.if-nodes-nodes_left.false c.nodes.invariant.gathered in
    let low = label-low c.args.nodes.now c.args.labels.now (c.nodes.labels_left - 1) (readable-written c.args.nodes.now c.args.labels.now c.requires.written) (omega (arith, c.nodes.invariant.gathered.labels_left)) in
    omega arith

pub nodes-preserved : goal.nodes-preserved
nodes-preserved c =
    record {
      gathered = leafed c.nodes.choices c.args.nodes.now c.args.labels.now c.nodes.nodes_left c.nodes.labels_left c.nodes.subtrees.items c.push-else-nodes-nodes_left.new.self.items c.leaf-end.result c.requires.written c.nodes-test.true c.if-nodes-nodes_left.false c.nodes.invariant.gathered
          c.leaf-end.ensures.root c.leaf-end.ensures.least c.in_ok-push-2.ensures.items;
      valid = c.nodes.invariant.valid;
    }

pub returns : goal.returns
returns c =
    let t = tree_of c.args.nodes.now c.args.labels.now in
    let read = whole c.nodes.choices c.args.nodes.now c.args.labels.now c.nodes.nodes_left c.nodes.labels_left c.nodes.subtrees.items c.requires.written (omega arith) c.nodes.invariant.gathered in
    let size : leaves t ≡ suc (length c.nodes.choices) = ap length c.requires.written.labels_stand ∙ omega (arith, c.requires.choices_long, c.nodes.auto.choices) in
    growth-noted c.nodes.choices t size c.requires.written.labelled.once read.noted
