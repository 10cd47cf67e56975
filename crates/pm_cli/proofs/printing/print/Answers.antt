use Rattle.std.proofs.Common.{◌≤◌, ℕ, ◌*◌, length, subst}
use Rattle.std.specs.Prelude.{Ok}
use Rattle.pm_mapfile.specs.Answers.{AnswersFile}
use Rattle.pm_cli.specs.MapAnswers.{task_relation, RefusesMapFile}
use Rattle.pm_cli.specs.steps.Answering.{StopsBy}
use Rattle.pm_cli.proofs.MapRelations.{rooted_map, map_is_few}
use Rattle.pm_cli.proofs.Refusals.{answered_map, file_passed_on}
use Rattle.pm_cli.proofs.printing.print.Goals as goal

pub returns-in_err-map : goal.returns-in_err-map
returns-in_err-map c =
    file_passed_on (task_relation c.args.task) c.args.bytes.now c.in_err-map.field-0.0 _
    (subst (λ (most : ℕ). StopsBy (RefusesMapFile most c.args.bytes.now) c.in_err-map.field-0.0) c.most_edges.ensures.is c.in_err-map.ensures) c.from_residual.ensures.1

pub text_of-requires-clause-rooted : goal.text_of-requires-clause-rooted
text_of-requires-clause-rooted c = rooted_map c.args.bytes.now _ c.in_ok-map.ensures.0 c.in_ok-map.map c.in_ok-map.ensures.1

pub text_of-requires-clause-few : goal.text_of-requires-clause-few
text_of-requires-clause-few c =
    subst (λ (most : ℕ). length c.in_ok-map.map.sigma ≤ 2 * most) c.most_edges.ensures.is (map_is_few c.args.bytes.now _ c.in_ok-map.ensures.0 c.in_ok-map.map c.in_ok-map.ensures.1)

pub returns : goal.returns
returns c =
    answered_map (task_relation c.args.task) c.args.bytes.now c.in_ok-map.ensures.0 c.in_ok-map.map
    (subst (λ (most : ℕ). AnswersFile c.args.bytes.now most c.in_ok-map.ensures.0 (Ok c.in_ok-map.map)) c.most_edges.ensures.is c.in_ok-map.ensures.1) c.text_of.result c.text_of.ensures
