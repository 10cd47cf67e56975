use Rattle.std.proofs.Common.{◌≡◌, List, All, Bool, length, ap, sym, ◌∙◌, subst, arith}
use Rattle.pm_remy.specs.Tree.{shape_of}
use Rattle.pm_remy.specs.Words.{forks_in}
use Rattle.pm_remy.proofs.Reading.{forks-shape}
use Rattle.pm_words.specs.Word.{IsGood}
use Rattle.pm_planting.specs.Kinds.{IsKind, IsWordOfKinds, letters_in}
use Rattle.pm_planting.specs.declared.kind.Kind.{Kind}
use Rattle.pm_euler.specs.Planted.{kinds_of_shape}
use Rattle.pm_euler.proofs.QuarticTrees.{tree_good, tree_kinds, tree_objects}
use Rattle.pm_euler.proofs.planting.plant.Goals as goal

pub kinds_of_shape-requires : goal.kinds_of_shape-requires
kinds_of_shape-requires c =
    let nodes : c.deref.result.now ≡ shape_of c.args.tree.now = c.deref.ensures.value ∙ c.in_ok-nodes.ensures in
    let forks = c.requires.forks in
    omega (arith, ap forks_in nodes, forks-shape c.args.tree.now, forks)

pub plant_plane-requires-clause-each : goal.plant_plane-requires-clause-each
plant_plane-requires-clause-each c =
    let kinds : c.deref-2.result.now ≡ kinds_of_shape (shape_of c.args.tree.now) c.args.ranks.now =
    c.deref-2.ensures.value ∙ c.in_ok-kinds.ensures ∙ ap (λ (bs : List Bool). kinds_of_shape bs c.args.ranks.now) (c.deref.ensures.value ∙ c.in_ok-nodes.ensures) in
    subst (All IsKind) (sym kinds) (tree_kinds c.args.tree.now c.args.ranks.now c.requires.forks c.requires.ranks)

pub plant_plane-requires-clause-some : goal.plant_plane-requires-clause-some
plant_plane-requires-clause-some c =
    let kinds : c.deref-2.result.now ≡ kinds_of_shape (shape_of c.args.tree.now) c.args.ranks.now =
    c.deref-2.ensures.value ∙ c.in_ok-kinds.ensures ∙ ap (λ (bs : List Bool). kinds_of_shape bs c.args.ranks.now) (c.deref.ensures.value ∙ c.in_ok-nodes.ensures) in
    let some = c.requires.some in
    omega (arith, ap length kinds, tree_objects c.args.tree.now c.args.ranks.now c.requires.forks, some)

pub plant_plane-requires-clause-few : goal.plant_plane-requires-clause-few
plant_plane-requires-clause-few c =
    let kinds : c.deref-2.result.now ≡ kinds_of_shape (shape_of c.args.tree.now) c.args.ranks.now =
    c.deref-2.ensures.value ∙ c.in_ok-kinds.ensures ∙ ap (λ (bs : List Bool). kinds_of_shape bs c.args.ranks.now) (c.deref.ensures.value ∙ c.in_ok-nodes.ensures) in
    let few = c.requires.few in
    omega (arith, ap length kinds, tree_objects c.args.tree.now c.args.ranks.now c.requires.forks, few)

pub plant_plane-requires-clause-good : goal.plant_plane-requires-clause-good
plant_plane-requires-clause-good c =
    let kinds : c.deref-2.result.now ≡ kinds_of_shape (shape_of c.args.tree.now) c.args.ranks.now =
    c.deref-2.ensures.value ∙ c.in_ok-kinds.ensures ∙ ap (λ (bs : List Bool). kinds_of_shape bs c.args.ranks.now) (c.deref.ensures.value ∙ c.in_ok-nodes.ensures) in
    subst (λ (ks : List Kind). IsGood 1 (letters_in ks)) (sym kinds) (tree_good c.args.tree.now c.args.ranks.now c.requires.forks)

pub returns : goal.returns
returns c =
    let kinds : c.deref-2.result.now ≡ kinds_of_shape (shape_of c.args.tree.now) c.args.ranks.now =
    c.deref-2.ensures.value ∙ c.in_ok-kinds.ensures ∙ ap (λ (bs : List Bool). kinds_of_shape bs c.args.ranks.now) (c.deref.ensures.value ∙ c.in_ok-nodes.ensures) in
    record { forks = c.requires.forks; of_kinds = subst (λ (ks : List Kind). IsWordOfKinds ks c.in_ok-planted.planted) kinds c.in_ok-planted.ensures }
