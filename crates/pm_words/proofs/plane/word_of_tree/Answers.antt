use Rattle.std.proofs.Common.{ap, sym, subst, ◌∙◌, ◌≡◌, List, ℤ, length, arith}
use Rattle.std.specs.Prelude.{IfOk}
use Rattle.pm_words.specs.Plane.{word_of}
use Rattle.pm_words.proofs.PlaneWords.{word_of-subtrees_of}
use Rattle.pm_words.proofs.plane.word_of_tree.Goals as goal

pub returns-clause-word : goal.returns-clause-word
returns-clause-word c =
    let same : c.deref.result.now ≡ word_of c.args.tree.now =
    c.deref.ensures.value ∙ sym (word_of-subtrees_of c.tree.inside.letters.items c.tree.invariant.letters c.tree.invariant.good) ∙ ap word_of c.tree.view_is in
    let P : List ℤ → Type 0 = λ w. IfOk c.from_slice.result (λ v. v.items ≡ w) in
    subst P same c.from_slice.ensures.items

pub returns-clause-few : goal.returns-clause-few
returns-clause-few c =
    let same : c.tree.inside.letters.items ≡ word_of c.args.tree.now =
    sym (word_of-subtrees_of c.tree.inside.letters.items c.tree.invariant.letters c.tree.invariant.good) ∙ ap word_of c.tree.view_is in
    omega (arith, ap length same, c.tree.invariant.few)
