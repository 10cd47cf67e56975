use Rattle.std.proofs.Common.{◌≡◌, ◌≤◌, Bool, List, subst, sym, ap, ◌∙◌, arith}
use Rattle.pm_limits.specs.declared.TheConstants.{MAX_EDGES}
use Rattle.pm_remy.specs.Tree.{shape_of, leaves}
use Rattle.pm_remy.specs.Words.{IsShape, forks_in, leaves_in, tree_of}
use Rattle.pm_remy.proofs.Reading.{shape-tree, leaves-shape, forks-shape}
use Rattle.pm_remy.proofs.label_tree.relabel.Goals as goal

pub tree_of_shape-requires-clause-shape : goal.tree_of_shape-requires-clause-shape
tree_of_shape-requires-clause-shape c =
    let t = tree_of c.tree.inside.nodes.items c.tree.inside.leaf_labels.items in
    let e : shape_of t ≡ c.deref.result.now = c.tree.invariant.shape ∙ sym c.deref.ensures.value in
    subst (λ (w : List Bool). IsShape w) e (shape-tree t)

pub tree_of_shape-requires-clause-few : goal.tree_of_shape-requires-clause-few
tree_of_shape-requires-clause-few c =
    let t = tree_of c.tree.inside.nodes.items c.tree.inside.leaf_labels.items in
    let e : shape_of t ≡ c.deref.result.now = c.tree.invariant.shape ∙ sym c.deref.ensures.value in
    subst (λ (w : List Bool). forks_in w ≤ MAX_EDGES) e (omega (arith, forks-shape t, c.tree.invariant.labelled.few))

pub tree_of_shape-requires-clause-as_many : goal.tree_of_shape-requires-clause-as_many
tree_of_shape-requires-clause-as_many c =
    let t = tree_of c.tree.inside.nodes.items c.tree.inside.leaf_labels.items in
    let e : shape_of t ≡ c.deref.result.now = c.tree.invariant.shape ∙ sym c.deref.ensures.value in
    c.requires.as_many ∙ (sym (ap leaves c.tree.view_is) ∙ (sym (leaves-shape t) ∙ ap leaves_in e))
