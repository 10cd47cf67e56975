use Rattle.std.proofs.Common.{◌≡◌, ℕ, List, subst}
use Rattle.std.specs.Prelude.{Some, Err}
use Rattle.pm_class.specs.Unsampling.{IsUnsampled, IsUnsampling}
use Rattle.pm_cli.specs.Classes.{InClass}
use Rattle.pm_cli.specs.MapAnswers.{counting}
use Rattle.pm_cli.specs.Unsampling.{Unsamples, rule_of_pair, unsampled, no_map, refused}
use Rattle.pm_cli.proofs.Refusals.{passed_on, refused_on}
use Rattle.pm_cli.proofs.unsample.unsample.Goals as goal

pub returns-in_err-map : goal.returns-in_err-map
returns-in_err-map g c =
    let at : InClass = record { most_edges = c.args.most_edges; counts = counting c.args.most_edges g.C.MapClass.answers; unsamples = IsUnsampling g.C.MapClass.choice_limits g.C.MapClass.residue_limits g.C.MapClass.samples g.C.MapClass.answers } in
    passed_on (Unsamples at c.args.bytes.now) _ (λ refusal h. no_map refusal h) c.in_err-map.field-0.0 _ c.in_err-map.ensures c.from_residual.ensures.1

pub returns-in_err-choices : goal.returns-in_err-choices
returns-in_err-choices g c =
    let at : InClass = record { most_edges = c.args.most_edges; counts = counting c.args.most_edges g.C.MapClass.answers; unsamples = IsUnsampling g.C.MapClass.choice_limits g.C.MapClass.residue_limits g.C.MapClass.samples g.C.MapClass.answers } in
    let why = c.in_err-choices.field-0.0 in
    refused_on (Unsamples at c.args.bytes.now) (λ refusal. rule_of_pair why ≡ Some refusal)
    (λ refusal rule. refused refusal why rule (record {
      residue = c.in_ok-map.residue;
      map = c.in_ok-map.map;
      answered = c.in_ok-map.ensures;
      holds =
          subst (λ (r : List ℕ). IsUnsampling g.C.MapClass.choice_limits g.C.MapClass.residue_limits g.C.MapClass.samples g.C.MapClass.answers c.in_ok-map.map r (Err why)) c.values.ensures c.in_err-choices.ensures;
    })) c.from_residual-in_err-choices.result c.from_residual-in_err-choices.ensures.1

pub returns : goal.returns
returns g c =
    unsampled _ (record {
      residue = c.in_ok-map.residue;
      map = c.in_ok-map.map;
      answered = c.in_ok-map.ensures;
      holds = record {
        choices = c.in_ok-choices.choices;
        unsampled =
            subst (λ (r : List ℕ). IsUnsampled g.C.MapClass.choice_limits g.C.MapClass.residue_limits g.C.MapClass.samples g.C.MapClass.answers c.in_ok-map.map r c.in_ok-choices.choices)
            c.values.ensures c.in_ok-choices.ensures;
        is_text = c.in_ok-choices_text.ensures;
      };
    })
