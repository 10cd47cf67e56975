use Rattle.std.proofs.Common.{List, ℕ, subst}
use Rattle.std.specs.Prelude.{Err}
use Rattle.pm_cli.specs.declared.refusal.Refusal.{Refusal}
use Rattle.pm_cli.specs.Classes.{AtSize}
use Rattle.pm_lists.specs.Refusal.{IsRefusalOf}
use Rattle.pm_class.specs.Sampling.{IsSampledUnnamed}
use Rattle.pm_cli.specs.Sampling.{Samples, sampled, no_list, not_valid}
use Rattle.pm_cli.specs.steps.ChoicesFile.{IsBrokenChoices, broken}
use Rattle.pm_cli.proofs.Refusals.{passed_on}
use Rattle.pm_cli.proofs.UnnamedTexts.{unnamed_text}
use Rattle.pm_cli.proofs.sample.sample.Goals as goal

broken_choices : (at : AtSize) (bytes : List ℕ) (refusal : Refusal) → IsBrokenChoices bytes refusal → Samples at bytes (Err refusal)
broken_choices at bytes _ (broken line h) = no_list line h

pub returns-in_err-choices : goal.returns-in_err-choices
returns-in_err-choices g c =
    let at : AtSize = record { is_size = g.C.MapClass.is_size c.args.size.now; choice_limits = g.C.MapClass.choice_limits c.args.size.now; residue_limits = g.C.MapClass.residue_limits c.args.size.now; has = g.C.MapClass.has c.args.size.now; samples = g.C.MapClass.samples c.args.size.now } in
    passed_on (Samples at c.args.bytes.now) (IsBrokenChoices c.args.bytes.now) (broken_choices at c.args.bytes.now) c.in_err-choices.field-0.0 _ c.in_err-choices.ensures c.from_residual.ensures.1

pub returns-in-Err : goal.returns-in-Err
returns-in-Err g c = not_valid c.in-Err.refusal (record {
  choices = c.in_ok-choices.choices;
  spelled = c.in_ok-choices.ensures;
  holds =
      let told = c.in-Err.ensures.refusal in
      subst (λ (values : List ℕ). IsRefusalOf values (g.C.MapClass.choice_limits c.args.size.now) c.in-Err.refusal) c.values.ensures
      (subst (λ (bounds : List ℕ). IsRefusalOf c.values.result.now bounds c.in-Err.refusal) c.in_ok-bounds.ensures told);
})

pub returns : goal.returns
returns g c = sampled c.in_ok-sample_text.field-0.items (record {
  choices = c.in_ok-choices.choices;
  spelled = c.in_ok-choices.ensures;
  holds =
      let samples = g.C.MapClass.samples c.args.size.now in
      let is = subst (λ (list : List ℕ). IsSampledUnnamed (g.C.MapClass.choice_limits c.args.size.now) (g.C.MapClass.residue_limits c.args.size.now) (g.C.MapClass.has c.args.size.now) (samples list) list c.in_ok-sample.sample)
      c.values-2.ensures c.in_ok-sample.ensures in
      unnamed_text (g.C.MapClass.choice_limits c.args.size.now) (g.C.MapClass.residue_limits c.args.size.now) (g.C.MapClass.has c.args.size.now) samples c.in_ok-choices.choices c.in_ok-sample.sample c.in_ok-sample_text.field-0.items is c.in_ok-sample_text.ensures;
})
