use Rattle.std.proofs.Common.{◌∙◌, ℕ, List, length, ◌<◌, ◌^◌, All, ap, ap₂, refl, sym, subst, arith}
use Rattle.std.specs.Prelude.{sum}
use Rattle.std.proofs.lemmas.List.{get_or_default}
use Rattle.std.proofs.lemmas.List.Elements.{All-weaker}
use Rattle.pm_trees.specs.BudPattern.{IsHalfDegree}
use Rattle.pm_words.specs.Word.{IsGoodStarts, turned}
use Rattle.pm_objects.specs.Objects.{letters_of}
use Rattle.pm_objects.proofs.Preorders.{preordered}
use Rattle.pm_euler.proofs.ObjectLemmas.{halves_are, halves_few, one_more_object}
use Rattle.pm_euler.proofs.eulerian.preorder_of.Goals as goal

low : (half : ℕ) → IsHalfDegree half → half < 2 ^ 31
low half is = omega (arith, is.few)

pub starts_of-requires-clause-low : goal.starts_of-requires-clause-low
starts_of-requires-clause-low c =
    All-weaker IsHalfDegree (λ half. half < 2 ^ 31) low c.args.halves.now (subst (All IsHalfDegree) (sym c.requires.profile.2) (halves_are c.requires.profile.0 c.requires.profile.1))

pub starts_of-requires-clause-nodes : goal.starts_of-requires-clause-nodes
starts_of-requires-clause-nodes c =
    let few = halves_few c.requires.profile.0 c.requires.profile.1 in
    let many = ap length c.requires.profile.2 in
    omega (arith, few, many, ap length c.deref.ensures.value, c.in_ok-arrangement.ensures.length, c.requires.profile.3)

pub starts_of-requires-clause-many : goal.starts_of-requires-clause-many
starts_of-requires-clause-many c =
    let all = one_more_object c.requires.profile.0 c.requires.profile.1 in
    let same = ap sum c.requires.profile.2 in
    omega (arith, all, same, ap length c.deref.ensures.value, c.in_ok-arrangement.ensures.length, c.requires.profile.3)

pub returns : goal.returns
returns c =
    preordered 1 c.args.halves.now c.args.code.now c.in_ok-arrangement.arrangement.items c.in_ok-objects.objects.items c.in_ok-starts.starts.items 0 c.index-start.result.now c.in_ok-arrangement.ensures.arranged
    (subst (λ (arrangement : List ℕ). IsGoodStarts 1 (letters_of c.args.halves.now arrangement) c.in_ok-starts.starts.items) c.deref.ensures.value c.in_ok-starts.ensures)
    (omega arith)
    (c.index-start.ensures ∙ get_or_default c.in_ok-starts.starts.items 0 c.index-start.result.now 0 (let one = c.in_ok-starts.ensures.as_many in omega (arith, one)))
    (c.in_ok-objects.ensures.turned ∙ ap₂ (λ (n : ℕ) (xs : List ℕ). turned n xs) refl c.deref-2.ensures.value)
