use Rattle.std.proofs.Common.{◌≡◌, ℕ, List}
use Rattle.std.specs.Prelude.{Some}
use Rattle.pm_mapfile.specs.Answers.{AnswersFile}
use Rattle.pm_mapfile.specs.MapFile.{IsSampleFile}
use Rattle.pm_cli.specs.Unsampling.{RefusesSampleFile}
use Rattle.pm_cli.specs.steps.Answering.{StopsBy}
use Rattle.pm_cli.specs.steps.MapReading.{rule_of_file, IsPairOfFile}
use Rattle.pm_cli.proofs.Refusals.{stopped, stopped_at, file_refused}
use Rattle.pm_cli.proofs.map_file.pair_of_file.Goals as goal

pub returns-in_err-read_sample_file : goal.returns-in_err-read_sample_file
returns-in_err-read_sample_file c =
    let why = c.in_err-read_sample_file.field-0.0 in
    stopped_at (IsPairOfFile c.args.bytes.now c.args.limit) (StopsBy (λ refusal. rule_of_file why ≡ Some refusal))
    (stopped (λ refusal. rule_of_file why ≡ Some refusal) (RefusesSampleFile c.args.limit c.args.bytes.now)
    (file_refused IsSampleFile (λ (residue : List ℕ). AnswersFile c.args.bytes.now c.args.limit (Some residue)) c.args.bytes.now why c.in_err-read_sample_file.ensures)) c.from_residual.result c.from_residual.ensures.1
