use Rattle.std.proofs.Common.{◌≡◌, ap, ◌∙◌, length, arith}
use Rattle.std.proofs.lemmas.List.Elements.{All-same}
use Rattle.pm_trees.specs.BudPattern.{IsHalfDegree}
use Rattle.pm_objects.specs.Objects.{arities_of}
use Rattle.pm_euler.specs.Objects.{halves_of}
use Rattle.pm_euler.proofs.ObjectLemmas.{halves_are, halves_few}
use Rattle.pm_euler.proofs.objects.halves_of.Goals as goal

pub returns-clause-halves : goal.returns-clause-halves
returns-clause-halves c = c.in_ok-halves.ensures ∙ ap arities_of (c.deref.ensures.value ∙ c.in_ok-ranges.ensures)

pub returns-clause-half_degrees : goal.returns-clause-half_degrees
returns-clause-half_degrees c =
    let same : c.in_ok-halves.halves.items ≡ halves_of c.args.profile.now = c.in_ok-halves.ensures ∙ ap arities_of (c.deref.ensures.value ∙ c.in_ok-ranges.ensures) in
    All-same IsHalfDegree c.in_ok-halves.halves.items (halves_of c.args.profile.now) same (halves_are c.args.profile.now c.pairs-pairs.ensures.valid)

pub returns-clause-few : goal.returns-clause-few
returns-clause-few c =
    let same : c.in_ok-halves.halves.items ≡ halves_of c.args.profile.now = c.in_ok-halves.ensures ∙ ap arities_of (c.deref.ensures.value ∙ c.in_ok-ranges.ensures) in
    omega (arith, ap length same, halves_few c.args.profile.now c.pairs-pairs.ensures.valid)
