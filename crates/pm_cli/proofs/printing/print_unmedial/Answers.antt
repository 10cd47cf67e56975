use Rattle.std.proofs.Common.{ℕ, List, length, refl, ap, ◌∙◌, subst, sym}
use Rattle.std.specs.Prelude.{◌==◌, Err}
use Rattle.pm_map.specs.declared.class_refusal.ClassRefusal.TheVariants as class
use Rattle.pm_cli.specs.declared.command.MapTask.TheVariants.{Unmedial}
use Rattle.pm_cli.specs.declared.refusal.MapRule.TheVariants.{Empty, Vertex}
use Rattle.pm_cli.specs.declared.refusal.Refusal.TheVariants.{Map}
use Rattle.pm_cli.specs.MapAnswers.{no_dart, other_degree, task_relation}
use Rattle.pm_cli.specs.steps.Answering.{AnswersTo, tells, breaks_rule}
use Rattle.pm_cli.proofs.StoppingWords.{empty, filled}
use Rattle.pm_cli.proofs.printing.print_unmedial.Goals as goal

pub returns-then-is_empty : goal.returns-then-is_empty
returns-then-is_empty c = breaks_rule (Map Empty) class.Empty refl (no_dart (empty _ (c.if-is_empty.ensures ∙ ap (λ (sigma : List ℕ). length sigma == 0) c.sigma.ensures.sigma)))

pub returns-in-Err-NotQuartic : goal.returns-in-Err-NotQuartic
returns-in-Err-NotQuartic c =
    subst (λ (dart : ℕ). AnswersTo (task_relation Unmedial) c.args.map.now (Err (Map (Vertex dart)))) (sym c.in-Err-NotQuartic.dart-is)
    (breaks_rule (Map (Vertex c.in-Err-NotQuartic.dart)) (class.Vertex c.in-Err-NotQuartic.dart) refl (other_degree c.in-Err-NotQuartic.dart (rw c.in-Err-NotQuartic.field-0-is at c.in-Err-NotQuartic.ensures)))

pub returns : goal.returns
returns c = tells _ (record {
  other = c.in-Ok.image;
  rooted = c.in-Ok.ensures.rooted;
  is_image = (filled _ (c.if-is_empty.ensures ∙ ap (λ (sigma : List ℕ). length sigma == 0) c.sigma.ensures.sigma), c.in-Ok.ensures);
  is_text = c.in_ok-canonical_bytes.ensures;
})
