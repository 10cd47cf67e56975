use Rattle.std.proofs.Common.{◌+◌, ℕ, ◌++◌, List, length, ap, subst, sym, ◌∙◌, arith}
use Rattle.pm_remy.specs.Words.{IsShape, forks_in, leaves_in}
use Rattle.pm_objects.proofs.RangeCodes.{code_from_valid}
use Rattle.pm_euler.specs.Bounds.{quartic_prefixes}
use Rattle.pm_euler.specs.Quartic.{MakesQuartic}
use Rattle.pm_euler.specs.Sampled.{IsPrefixOf}
use Rattle.pm_euler.proofs.QuarticMade.{prefix_of_labels, no_other, read_of_size}
use Rattle.pm_euler.proofs.quartic.prefix_of.Goals as goal

pub shape_and_ranks-requires-clause-degrees : goal.shape_and_ranks-requires-clause-degrees
shape_and_ranks-requires-clause-degrees c = no_other c.args.size c.args.tree.now c.requires.made.nodes

pub arrange-requires-clause-few : goal.arrange-requires-clause-few
arrange-requires-clause-few c =
    let long = (code_from_valid (c.args.size + 1) c.args.rest.now c.requires.made.valid).long in
    let few = c.requires.size.few in
    omega (arith, long, few)

pub arrange-requires-clause-is_code : goal.arrange-requires-clause-is_code
arrange-requires-clause-is_code c = (code_from_valid (c.args.size + 1) c.args.rest.now c.requires.made.valid).is_code

pub tree_of_shape-requires-clause-shape : goal.tree_of_shape-requires-clause-shape
tree_of_shape-requires-clause-shape c =
    subst IsShape (sym c.deref.ensures.value) (read_of_size c.args.size c.args.tree.now c.args.rest.now c.in_ok-read.read.nodes.items c.in_ok-read.read.ranks.items c.requires.made c.in_ok-read.ensures.as_many c.in_ok-read.ensures.planted).is.is_shape

pub tree_of_shape-requires-clause-few : goal.tree_of_shape-requires-clause-few
tree_of_shape-requires-clause-few c =
    let r = read_of_size c.args.size c.args.tree.now c.args.rest.now c.in_ok-read.read.nodes.items c.in_ok-read.read.ranks.items c.requires.made c.in_ok-read.ensures.as_many c.in_ok-read.ensures.planted in
    let forks = r.forks in
    let few = c.requires.size.few in
    omega (arith, ap forks_in c.deref.ensures.value, forks, few)

pub tree_of_shape-requires-clause-as_many : goal.tree_of_shape-requires-clause-as_many
tree_of_shape-requires-clause-as_many c =
    let r = read_of_size c.args.size c.args.tree.now c.args.rest.now c.in_ok-read.read.nodes.items c.in_ok-read.read.ranks.items c.requires.made c.in_ok-read.ensures.as_many c.in_ok-read.ensures.planted in
    let leaves = r.leaves_are in
    let long = (code_from_valid (c.args.size + 1) c.args.rest.now c.requires.made.valid).long in
    omega (arith, ap leaves_in c.deref.ensures.value, ap length c.deref-2.ensures.value, c.in_ok-labels.ensures.length, leaves, long)

pub returns : goal.returns
returns c =
    let r = read_of_size c.args.size c.args.tree.now c.args.rest.now c.in_ok-read.read.nodes.items c.in_ok-read.read.ranks.items c.requires.made c.in_ok-read.ensures.as_many c.in_ok-read.ensures.planted in
    let whole = c.in_ok-extend_from_slice.ensures.items ∙ ap (λ (xs : List ℕ). c.in_ok-prefix.prefix.items ++ xs) c.deref-3.ensures.value in
    subst (λ (fs : List ℕ). IsPrefixOf (quartic_prefixes c.args.size) (MakesQuartic c.args.size) fs c.args.tree.now c.args.rest.now) (sym whole)
    (prefix_of_labels c.args.size r.is.tree c.in_ok-labelled.labelled c.in_ok-prefix.prefix.items c.in_ok-read.read.ranks.items c.in_ok-labels.labels.items c.args.rest.now c.args.tree.now c.requires.made.blossoming r.is.is_planted r.many
    (c.in_ok-labelled.ensures.shape ∙ c.deref.ensures.value ∙ sym r.is.shape_is) (c.in_ok-labelled.ensures.labels ∙ c.deref-2.ensures.value) c.in_ok-labels.ensures.arranged c.in_ok-prefix.ensures)
