-- The answer to words and bytes: the text for standard output, or why there is none.
use Rattle.std.specs.Prelude.{ℕ, ◌<◌, ◌≤◌, List, length, Result, Err}
use Rattle.pm_io.specs.declared.TheConstants.{MAX_BYTES}
use Rattle.pm_cli.specs.declared.class.Size.{Size}
use Rattle.pm_cli.specs.declared.command.Command.TheVariants.{Reads, Makes}
use Rattle.pm_cli.specs.declared.command.Maker.{Maker}
use Rattle.pm_cli.specs.declared.command.Maker.TheVariants.{Draw, Trip, Census}
use Rattle.pm_cli.specs.declared.command.Reader.{Reader}
use Rattle.pm_cli.specs.declared.command.Reader.TheVariants.{Close, OpenEulerian, OfMap, Check, Unsample, Sample}
use Rattle.pm_cli.specs.declared.refusal.Limit.TheVariants.{Bytes}
use Rattle.pm_cli.specs.declared.refusal.Refusal.{Refusal}
use Rattle.pm_cli.specs.declared.refusal.Refusal.TheVariants.{Usage, Limited}
use Rattle.pm_cli.specs.Classes.{AtSize, sized, class_at, counts_of}
use Rattle.pm_cli.specs.Closing.{ClosesFile}
use Rattle.pm_cli.specs.Commands.{Spells, IsNoCommand}
use Rattle.pm_cli.specs.Counting.{Counts}
use Rattle.pm_cli.specs.Drawing.{Draws}
use Rattle.pm_cli.specs.MapAnswers.{AnswersMap, task_relation, opening}
use Rattle.pm_cli.specs.Sampling.{Samples}
use Rattle.pm_cli.specs.TreeKinds.{kind_of}
use Rattle.pm_cli.specs.Trip.{Trips}
use Rattle.pm_cli.specs.Unsampling.{Unsamples}

-- what a command answers to a file within the limit
abbrev pub AnswersReader : Reader → List ℕ → Result (List ℕ) Refusal → Type 0
AnswersReader (Close trees) bytes answer = ClosesFile (kind_of trees) bytes answer
AnswersReader OpenEulerian bytes answer = AnswersMap opening bytes answer
AnswersReader (OfMap task) bytes answer = AnswersMap (task_relation task) bytes answer
AnswersReader (Check class) bytes answer = AnswersMap (counts_of class) bytes answer
AnswersReader (Unsample class) bytes answer = Unsamples (class_at class) bytes answer
AnswersReader (Sample size) bytes answer = Samples (sized size) bytes answer

-- what is made of a size
abbrev pub AnswersSize : Maker → AtSize → Result (List ℕ) Refusal → Type 0
AnswersSize (Draw seed count) at answer = Draws at.choice_limits at.samples seed count answer
AnswersSize (Trip seed) at answer = Trips at.choice_limits at.samples seed answer
AnswersSize Census at answer = Counts at.choice_limits at.samples answer

-- the answer, by the first rule that applies
pub data Answers (words : List (List ℕ)) (bytes : List ℕ) : Result (List ℕ) Refusal → Type 0 where
  no_command : (k : ℕ) → IsNoCommand words k → Answers words bytes (Err (Usage k))
  too_long : (reader : Reader) → Spells words (Reads reader) → MAX_BYTES < length bytes → Answers words bytes (Err (Limited Bytes))
  of_file : (reader : Reader) → Spells words (Reads reader) → length bytes ≤ MAX_BYTES → (answer : Result (List ℕ) Refusal) → AnswersReader reader bytes answer
      → Answers words bytes answer
  of_size : (task : Maker) (size : Size) → Spells words (Makes task size) → (answer : Result (List ℕ) Refusal) → AnswersSize task (sized size) answer
      → Answers words bytes answer
