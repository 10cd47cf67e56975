use Rattle.std.proofs.Common.{◌≡◌, ℕ, Bool, List, length, drop, subst, sym, ap₂, ◌∙◌, arith}
use Rattle.std.proofs.lemmas.List.{take_at}
use Rattle.pm_remy.specs.Tree.{Tree}
use Rattle.pm_remy.specs.Growth.{IsGrowth}
use Rattle.pm_remy.specs.Words.{IsWritten, tree_of}
use Rattle.pm_remy.proofs.Waiting.{sized-written}
use Rattle.pm_remy.proofs.growth.ungrow.Goals as goal

pub overflow_sub-len : goal.overflow_sub-len
overflow_sub-len c =
    let sized = sized-written c.tree.inside.nodes.items c.tree.inside.leaf_labels.items c.tree.invariant in
    omega (arith, sized.sizes, c.tree.inside.leaf_labels.ok.0)

pub read_choices-requires-clause-written : goal.read_choices-requires-clause-written
read_choices-requires-clause-written c =
    subst (λ (w : List Bool). IsWritten w c.deref-2.result.now) (sym c.deref.ensures.value)
    (subst (λ (ms : List ℕ). IsWritten c.tree.inside.nodes.items ms) (sym c.deref-2.ensures.value) c.tree.invariant)

pub read_choices-requires-clause-choices_long : goal.read_choices-requires-clause-choices_long
read_choices-requires-clause-choices_long c =
    let sized = sized-written c.tree.inside.nodes.items c.tree.inside.leaf_labels.items c.tree.invariant in
    omega (arith, c.deref_mut.ensures.len, c.in_ok-choices.ensures.len, c.len.ensures, c.deref-2.ensures.len, sized.sizes, c.tree.inside.leaf_labels.ok.0)

pub returns : goal.returns
returns c =
    let long : length c.read_choices.new.choices ≡ c.in_ok-choices.choices.len = c.read_choices.auto.choices ∙ c.deref_mut.ensures.len in
    let all = take_at c.read_choices.new.choices (drop (length c.read_choices.new.choices) c.in_ok-choices.choices.items) c.in_ok-choices.choices.len long in
    let tree : tree_of c.deref.result.now c.deref-2.result.now ≡ c.args.tree.now = ap₂ tree_of c.deref.ensures.value c.deref-2.ensures.value ∙ c.tree.view_is in
    subst (λ (cs : List ℕ). IsGrowth cs c.args.tree.now) (sym all)
    (subst (λ (t : Tree). IsGrowth c.read_choices.new.choices t) tree c.in_ok-read_choices.ensures)
