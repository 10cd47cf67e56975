use Rattle.std.proofs.Common.{ap, ◌∙◌, arith}
use Rattle.std.specs.Prelude.{ℕ, List, take}
use Rattle.pm_brackets.specs.Word.{count}
use Rattle.pm_tri.specs.declared.letters.TheConstants.{STEM}
use Rattle.pm_tri.specs.StemTree.{contour}
use Rattle.pm_trisample.proofs.RunPlanting.{start_anew, start_balances, start_few}
use Rattle.pm_trisample.proofs.anew.plant_anew.Goals as goal

pub tri_replant-requires : goal.tri_replant-requires
tri_replant-requires c =
    let stem = c.letters_before-stem.ensures ∙ ap (λ (w : List ℕ). count STEM (take c.in_ok-place.place (contour w))) c.letters-word.ensures.letters in
    start_few c.args.tree.now c.args.run c.in_ok-place.place c.letters_before-stem.result c.letters-word.ensures.valid c.in_ok-place.ensures stem

pub overflow_sub-result : goal.overflow_sub-result
overflow_sub-result c =
    let stem = c.letters_before-stem.ensures ∙ ap (λ (w : List ℕ). count STEM (take c.in_ok-place.place (contour w))) c.letters-word.ensures.letters in
    let few = start_few c.args.tree.now c.args.run c.in_ok-place.place c.letters_before-stem.result c.letters-word.ensures.valid c.in_ok-place.ensures stem in
    omega (arith, few, c.nodes-stems.ensures)

pub returns-clause-anew : goal.returns-clause-anew
returns-clause-anew c =
    let stem = c.letters_before-stem.ensures ∙ ap (λ (w : List ℕ). count STEM (take c.in_ok-place.place (contour w))) c.letters-word.ensures.letters in
    start_anew c.args.tree.now c.args.run c.in_ok-place.place c.letters_before-stem.result c.letters-word.ensures.valid c.in_ok-place.ensures stem c.in_ok-replanted.replanted c.nodes-stems.result c.nodes-stems.ensures
    c.in_ok-replanted.ensures.replanted

pub returns-clause-balanced : goal.returns-clause-balanced
returns-clause-balanced c =
    let stem = c.letters_before-stem.ensures ∙ ap (λ (w : List ℕ). count STEM (take c.in_ok-place.place (contour w))) c.letters-word.ensures.letters in
    start_balances c.args.tree.now c.args.run c.in_ok-place.place c.letters_before-stem.result c.letters-word.ensures.valid c.in_ok-place.ensures stem c.in_ok-replanted.replanted c.in_ok-replanted.ensures.replanted
