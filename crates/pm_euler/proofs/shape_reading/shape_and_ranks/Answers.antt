use Rattle.std.proofs.Common.{List, refl, slice_index_or, subst, sym}
use Rattle.pm_planting.specs.Kinds.{IsWordOfKinds}
use Rattle.pm_planting.specs.declared.kind.Kind.{Kind}
use Rattle.pm_planting.specs.declared.kind.Kind.TheVariants.{Leaf}
use Rattle.pm_planting.proofs.KindPatterns.{no_node}
use Rattle.pm_euler.proofs.QuarticTrees.{read_none, read_leaf, read_node, read_whole}
use Rattle.pm_euler.proofs.shape_reading.shape_and_ranks.Goals as goal

pub kinds-init : goal.kinds-init
kinds-init c = read_none c.deref-kind-items.result.now c.in_ok-nodes.nodes.items c.in_ok-ranks.ranks.items c.in_ok-nodes.ensures.items c.in_ok-ranks.ensures.items

pub kinds-preserved-in_default : goal.kinds-preserved-in_default
kinds-preserved-in_default c =
    read_leaf c.deref-kind-items.result.now c.kinds.nodes.items c.push.new.self.items c.kinds.ranks.items c.kinds.ranks.items c.kinds.kind-index c.kinds.invariant c.kinds-test.true
    (no_node (slice_index_or c.deref-kind-items.result.now c.kinds.kind-index Leaf) c.in_default.not-Node) c.in_ok-push.ensures.items refl

pub kinds-preserved : goal.kinds-preserved
kinds-preserved c =
    read_node c.deref-kind-items.result.now c.kinds.nodes.items c.push-in-kinds.new.self.items c.kinds.ranks.items c.push-in-kinds-2.new.self.items c.kinds.kind-index c.kinds.invariant c.kinds-test.true
    c.in-Node.half c.in-Node.rank c.in-Node.is c.in_ok-push-2.ensures.items c.in_ok-push-3.ensures.items

pub returns-clause-as_many : goal.returns-clause-as_many
returns-clause-as_many c =
    (read_whole c.args.tree.now c.deref-kind-items.result.now c.kinds.nodes.items c.kinds.ranks.items c.kinds.kind-index c.requires.blossoming c.requires.degrees
    (subst (λ (ks : List Kind). IsWordOfKinds ks c.args.tree.now) (sym c.deref-kind-items.ensures.value) c.in_ok-kinds.ensures) c.kinds.invariant c.kinds-test.false).many

pub returns-clause-planted : goal.returns-clause-planted
returns-clause-planted c =
    (read_whole c.args.tree.now c.deref-kind-items.result.now c.kinds.nodes.items c.kinds.ranks.items c.kinds.kind-index c.requires.blossoming c.requires.degrees
    (subst (λ (ks : List Kind). IsWordOfKinds ks c.args.tree.now) (sym c.deref-kind-items.ensures.value) c.in_ok-kinds.ensures) c.kinds.invariant c.kinds-test.false).planted
