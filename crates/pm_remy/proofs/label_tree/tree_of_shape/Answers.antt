use Rattle.std.proofs.Common.{◌≡◌, Bool, List, ℕ, subst, sym, ◌∙◌}
use Rattle.pm_remy.specs.Words.{IsWritten}
use Rattle.pm_remy.proofs.Reading.{written-words}
use Rattle.pm_remy.proofs.label_tree.tree_of_shape.Goals as goal

pub invariant_of-result : goal.invariant_of-result
invariant_of-result c =
    let n : c.in_ok-nodes.nodes.items ≡ c.args.shape.now = c.in_ok-nodes.ensures.items in
    let m : c.in_ok-leaf_labels.leaf_labels.items ≡ c.args.labels.now = c.in_ok-leaf_labels.ensures.items in
    subst (λ (w : List Bool). IsWritten w c.in_ok-leaf_labels.leaf_labels.items) (sym n)
    (subst (λ (ms : List ℕ). IsWritten c.args.shape.now ms) (sym m)
    (written-words c.args.shape.now c.args.labels.now c.requires.shape c.requires.few c.requires.once c.requires.as_many))

pub returns-clause-shape : goal.returns-clause-shape
returns-clause-shape c = (invariant_of-result c).shape ∙ c.in_ok-nodes.ensures.items

pub returns-clause-labels : goal.returns-clause-labels
returns-clause-labels c = (invariant_of-result c).labels_stand ∙ c.in_ok-leaf_labels.ensures.items
