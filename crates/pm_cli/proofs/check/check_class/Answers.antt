use Rattle.std.proofs.Common.{◌≡◌}
use Rattle.std.specs.Prelude.{Some}
use Rattle.pm_cli.specs.MapAnswers.{rule_of_class, AnswersMap, told, breaks, counting}
use Rattle.pm_cli.proofs.Refusals.{refused_on, file_passed_on}
use Rattle.pm_cli.proofs.check.check_class.Goals as goal

pub returns-in_err-map : goal.returns-in_err-map
returns-in_err-map g c =
    file_passed_on (counting c.args.most_edges g.C.Measured.answers) c.args.bytes.now c.in_err-map.field-0.0 _ c.in_err-map.ensures c.from_residual.ensures.1

pub returns-in_err-_size : goal.returns-in_err-_size
returns-in_err-_size g c =
    refused_on (AnswersMap (counting c.args.most_edges g.C.Measured.answers) c.args.bytes.now) (λ refusal. rule_of_class c.in_err-_size.field-0.0 ≡ Some refusal)
    (λ refusal rule. breaks refusal c.in_err-_size.field-0.0 rule (record { residue = c.in_ok-map.ensures.0; map = c.in_ok-map.map; answered = c.in_ok-map.ensures.1; holds = c.in_err-_size.ensures }))
    c.from_residual-in_err-_size.result c.from_residual-in_err-_size.ensures.1

pub returns : goal.returns
returns g c =
    told _ (record {
      residue = c.in_ok-map.ensures.0;
      map = c.in_ok-map.map;
      answered = c.in_ok-map.ensures.1;
      holds = ((c.in_ok-_size._size, c.in_ok-_size.ensures), c.in_ok-counts_text.ensures);
    })
