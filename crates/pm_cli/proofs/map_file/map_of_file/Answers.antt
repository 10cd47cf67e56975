use Rattle.std.proofs.Common.{◌≡◌}
use Rattle.std.specs.Prelude.{Some}
use Rattle.pm_mapfile.specs.Answers.{AnswersFile}
use Rattle.pm_mapfile.specs.MapFile.{IsMapFile}
use Rattle.pm_cli.specs.MapAnswers.{RefusesMapFile}
use Rattle.pm_cli.specs.steps.Answering.{StopsBy}
use Rattle.pm_cli.specs.steps.MapReading.{rule_of_file, IsMapOfFile}
use Rattle.pm_cli.proofs.Refusals.{stopped, stopped_at, file_refused}
use Rattle.pm_cli.proofs.map_file.map_of_file.Goals as goal

pub returns-in_err-map : goal.returns-in_err-map
returns-in_err-map c =
    stopped_at (IsMapOfFile c.args.bytes.now c.args.limit) (StopsBy (λ refusal. rule_of_file c.in_err-map.field-0.0 ≡ Some refusal))
    (stopped (λ refusal. rule_of_file c.in_err-map.field-0.0 ≡ Some refusal) (RefusesMapFile c.args.limit c.args.bytes.now)
    (file_refused IsMapFile (λ residue. AnswersFile c.args.bytes.now c.args.limit residue) c.args.bytes.now c.in_err-map.field-0.0 c.in_err-map.ensures)) c.from_residual.result c.from_residual.ensures.1
