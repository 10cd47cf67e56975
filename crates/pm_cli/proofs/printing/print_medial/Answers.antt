use Rattle.std.proofs.Common.{ℕ, List, length, refl, ap, ◌∙◌, arith}
use Rattle.std.specs.Prelude.{◌==◌}
use Rattle.pm_map.specs.declared.class_refusal.ClassRefusal.TheVariants as class
use Rattle.pm_medial.proofs.WrittenLemmas.{medial_is_rooted}
use Rattle.pm_cli.specs.declared.refusal.MapRule.TheVariants.{Empty}
use Rattle.pm_cli.specs.declared.refusal.Refusal.TheVariants.{Map}
use Rattle.pm_cli.specs.MapAnswers.{empty as no_darts}
use Rattle.pm_cli.specs.steps.Answering.{tells, breaks_rule}
use Rattle.pm_cli.proofs.StoppingWords.{empty, filled}
use Rattle.pm_cli.proofs.printing.print_medial.Goals as goal

pub returns-then-is_empty : goal.returns-then-is_empty
returns-then-is_empty c = breaks_rule (Map Empty) class.Empty refl (no_darts (empty _ (c.if-is_empty.ensures ∙ ap (λ (sigma : List ℕ). length sigma == 0) c.sigma.ensures.sigma)))

pub returns : goal.returns
returns c =
    let some = filled _ (c.if-is_empty.ensures ∙ ap (λ (sigma : List ℕ). length sigma == 0) c.sigma.ensures.sigma) in
    let is = c.in-Ok.ensures.is_medial in
    tells _ (record {
      other = c.in-Ok.image;
      rooted = medial_is_rooted c.args.map.now c.in-Ok.image c.sigma.ensures.valid some (omega (arith, c.requires)) is;
      is_image = (some, is);
      is_text = c.in_ok-canonical_bytes.ensures;
    })
