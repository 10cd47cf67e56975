use Rattle.std.proofs.Common.{◌≡◌, ◌+◌, ◌-◌, ◌/◌, ◌%◌, ◌<◌, ◌≤◌, ℕ, suc, Bool, true, false, List, [], ◌∷◌, ◌++◌, length, slice_index, vec_len, sym, ap, subst, ◌∙◌, arith}
use Rattle.std.proofs.lemmas.List.{nil_from_length}
use Rattle.pm_remy.specs.Tree.{Tree}
use Rattle.pm_remy.specs.Words.{IsLabelTree}
use Rattle.pm_remy.specs.steps.Linked.{IsHeld}
use Rattle.pm_remy.proofs.Waiting.{length-shape, IsWalked, IsAllMet, ahead-start, ahead-short, walked-leaf, walked-fork, fork-low, all-met, tree-met, written-met}
use Rattle.pm_remy.proofs.links.words_of.Goals as goal

start : (L : List ℕ) (t : Tree) (nodes : List Bool) (labels ahead : List ℕ) → IsHeld L t → nodes ≡ [] → labels ≡ [] → ahead ≡ slice_index L 0 ∷ []
    → IsWalked (slice_index L) (length L) t nodes labels ahead
start L t nodes labels ahead h n m a =
    subst (λ (ns : List Bool). IsWalked (slice_index L) (length L) t ns labels ahead) (sym n)
    (subst (λ (ms : List ℕ). IsWalked (slice_index L) (length L) t [] ms ahead) (sym m)
    (subst (λ (xs : List ℕ). IsWalked (slice_index L) (length L) t [] [] xs) (sym a)
    (record { numbers = slice_index L 0 ∷ []; trees = t ∷ []; state = ahead-start (slice_index L) (length L) t h.tied })))

met_leaf : (L : List ℕ) (t : Tree) (nodes nodes_after : List Bool) (labels labels_after ahead rest : List ℕ) (node : ℕ) → IsHeld L t
    → IsWalked (slice_index L) (length L) t nodes labels ahead → ahead ≡ rest ++ node ∷ [] → node % 2 ≡ 0
    → nodes_after ≡ nodes ++ false ∷ [] → labels_after ≡ labels ++ node / 2 ∷ [] → IsWalked (slice_index L) (length L) t nodes_after labels_after rest
met_leaf L t nodes nodes_after labels labels_after ahead rest node h w e even n m =
    let was = subst (λ (xs : List ℕ). IsWalked (slice_index L) (length L) t nodes labels xs) e w in
    subst (λ (ns : List Bool). IsWalked (slice_index L) (length L) t ns labels_after rest) (sym n)
    (subst (λ (ms : List ℕ). IsWalked (slice_index L) (length L) t (nodes ++ false ∷ []) ms rest) (sym m)
    (walked-leaf (slice_index L) (length L) t nodes labels rest node was even))

met_fork : (L : List ℕ) (t : Tree) (nodes nodes_after : List Bool) (labels ahead rest ahead_after : List ℕ) (node : ℕ) → IsHeld L t
    → IsWalked (slice_index L) (length L) t nodes labels ahead → ahead ≡ rest ++ node ∷ [] → (node % 2 ≡ 0 → ⊥)
    → nodes_after ≡ nodes ++ true ∷ [] → ahead_after ≡ (rest ++ slice_index L (suc node) ∷ []) ++ slice_index L node ∷ []
    → IsWalked (slice_index L) (length L) t nodes_after labels ahead_after
met_fork L t nodes nodes_after labels ahead rest ahead_after node h w e odd n a =
    let was = subst (λ (xs : List ℕ). IsWalked (slice_index L) (length L) t nodes labels xs) e w in
    subst (λ (ns : List Bool). IsWalked (slice_index L) (length L) t ns labels ahead_after) (sym n)
    (subst (λ (xs : List ℕ). IsWalked (slice_index L) (length L) t (nodes ++ true ∷ []) labels xs) (sym a)
    (walked-fork (slice_index L) (length L) t nodes labels rest node was odd))

low_fork : (L : List ℕ) (t : Tree) (nodes : List Bool) (labels ahead rest : List ℕ) (node : ℕ) → IsHeld L t
    → IsWalked (slice_index L) (length L) t nodes labels ahead → ahead ≡ rest ++ node ∷ [] → (node % 2 ≡ 0 → ⊥) → suc node < length L
low_fork L t nodes labels ahead rest node h w e odd =
    let was = subst (λ (xs : List ℕ). IsWalked (slice_index L) (length L) t nodes labels xs) e w in
    fork-low (slice_index L) (length L) t nodes labels rest node was odd

short : (L : List ℕ) (t : Tree) (nodes : List Bool) (labels ahead : List ℕ) → IsHeld L t → IsWalked (slice_index L) (length L) t nodes labels ahead → length nodes ≤ length L
short L t nodes labels ahead h w =
    let room = h.room in omega (arith, ahead-short (slice_index L) (length L) t w.numbers w.trees nodes labels ahead w.state)

all : (L : List ℕ) (t : Tree) (nodes : List Bool) (labels ahead : List ℕ) → IsWalked (slice_index L) (length L) t nodes labels ahead → ahead ≡ [] → IsAllMet t nodes labels
all L t nodes labels ahead w e =
    let last = subst (λ (xs : List ℕ). IsWalked (slice_index L) (length L) t nodes labels xs) e w in
    all-met (slice_index L) (length L) t last.numbers last.trees nodes labels last.state

pub nodes-init : goal.nodes-init
nodes-init c =
    λ t h.
    let first = c.in_ok-push.ensures.items in
    start c.args.links.now t c.in_ok-nodes.nodes.items c.in_ok-leaf_labels.leaf_labels.items c.push.new.self.items h c.in_ok-nodes.ensures.items c.in_ok-leaf_labels.ensures.items
    (first ∙ ap (λ (xs : List ℕ). xs ++ slice_index c.args.links.now 0 ∷ []) c.new-ahead.ensures.items)

pub nodes-smaller-in-Continue-branch-5 : goal.nodes-smaller-in-Continue-branch-5
nodes-smaller-in-Continue-branch-5 c =
    let tree = c.requires.tree in
    let low = short c.args.links.now tree.0 c.nodes.nodes.items c.nodes.leaf_labels.items c.nodes.ahead.items tree.1 (c.nodes.invariant tree.0 tree.1) in
    let falls : suc (length c.args.links.now) - vec_len c.push-then-node-eq0.new.self < suc (length c.args.links.now) - vec_len c.nodes.nodes =
    omega (arith, c.in_ok-push-2.ensures.len, c.nodes.nodes.ok.0) in falls

pub nodes-preserved-in-Continue-branch-5 : goal.nodes-preserved-in-Continue-branch-5
nodes-preserved-in-Continue-branch-5 c =
    λ t h.
    met_leaf c.args.links.now t c.nodes.nodes.items c.push-then-node-eq0.new.self.items c.nodes.leaf_labels.items c.push-then-node-eq0-2.new.self.items
    c.nodes.ahead.items c.pop.new.self.items c.in-Some.node h (c.nodes.invariant t h) c.in-Some.ensures.items c.if-node-eq0.true
    c.in_ok-push-2.ensures.items c.in_ok-push-3.ensures.items

pub bounds-links-fork : goal.bounds-links-fork
bounds-links-fork c =
    let tree = c.requires.tree in
    omega (
      arith,
      low_fork c.args.links.now tree.0 c.nodes.nodes.items c.nodes.leaf_labels.items c.nodes.ahead.items c.pop.new.self.items c.in-Some.node tree.1
          (c.nodes.invariant tree.0 tree.1) c.in-Some.ensures.items c.if-node-eq0.false,
    )

pub bounds-links-fork-else-node-eq0 : goal.bounds-links-fork-else-node-eq0
bounds-links-fork-else-node-eq0 c =
    let tree = c.requires.tree in
    omega (
      arith,
      low_fork c.args.links.now tree.0 c.nodes.nodes.items c.nodes.leaf_labels.items c.nodes.ahead.items c.pop.new.self.items c.in-Some.node tree.1
          (c.nodes.invariant tree.0 tree.1) c.in-Some.ensures.items c.if-node-eq0.false,
    )

pub nodes-smaller : goal.nodes-smaller
nodes-smaller c =
    let tree = c.requires.tree in
    let low = short c.args.links.now tree.0 c.nodes.nodes.items c.nodes.leaf_labels.items c.nodes.ahead.items tree.1 (c.nodes.invariant tree.0 tree.1) in
    let falls : suc (length c.args.links.now) - vec_len c.push-else-node-eq0.new.self < suc (length c.args.links.now) - vec_len c.nodes.nodes =
    omega (arith, c.in_ok-push-4.ensures.len, c.nodes.nodes.ok.0) in falls

pub nodes-preserved : goal.nodes-preserved
nodes-preserved c =
    λ t h.
    let next : c.in-Some.node + 1 ≡ suc c.in-Some.node = omega arith in
    let L = c.args.links.now in
    let right : c.push-else-node-eq0-2.new.self.items ≡ c.pop.new.self.items ++ slice_index L (suc c.in-Some.node) ∷ [] =
    c.in_ok-push-5.ensures.items ∙ ap (λ (n : ℕ). c.pop.new.self.items ++ slice_index L n ∷ []) next in
    met_fork L t c.nodes.nodes.items c.push-else-node-eq0.new.self.items c.nodes.leaf_labels.items
    c.nodes.ahead.items c.pop.new.self.items c.push-else-node-eq0-3.new.self.items c.in-Some.node h (c.nodes.invariant t h) c.in-Some.ensures.items c.if-node-eq0.false
    c.in_ok-push-4.ensures.items (c.in_ok-push-6.ensures.items ∙ ap (λ (xs : List ℕ). xs ++ slice_index L c.in-Some.node ∷ []) right)

pub invariant_of-result : goal.invariant_of-result
invariant_of-result c =
    let tree = c.requires.tree in
    let h = tree.1 in
    let none : c.nodes.ahead.items ≡ [] = nil_from_length c.nodes.ahead.items (omega (arith, c.nodes.ahead.ok.0, c.in_default.ensures.cases)) in
    let met = all c.args.links.now tree.0 c.nodes.nodes.items c.nodes.leaf_labels.items c.nodes.ahead.items (c.nodes.invariant tree.0 h) none in
    let labelled : IsLabelTree tree.0 = record { once = h.once; few = omega (arith, h.room) } in
    written-met tree.0 c.nodes.nodes.items c.nodes.leaf_labels.items labelled met

pub returns : goal.returns
returns c =
    λ t h.
    let none : c.nodes.ahead.items ≡ [] = nil_from_length c.nodes.ahead.items (omega (arith, c.nodes.ahead.ok.0, c.in_default.ensures.cases)) in
    tree-met t c.nodes.nodes.items c.nodes.leaf_labels.items
    (all c.args.links.now t c.nodes.nodes.items c.nodes.leaf_labels.items c.nodes.ahead.items (c.nodes.invariant t h) none)

pub bounds-links-0 : goal.bounds-links-0
bounds-links-0 c =
    let tree = c.requires.tree in
    omega (arith, length-shape tree.0, tree.1.room)
