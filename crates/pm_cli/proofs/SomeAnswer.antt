-- No words and bytes are without an answer.
use Rattle.std.proofs.Common.{ℕ, inl, inr, List, length, refl, arith}
use Rattle.std.specs.Prelude.{Err}
use Rattle.std.proofs.lemmas.Bool.{cases_lt}
use Rattle.pm_io.specs.declared.TheConstants.{MAX_BYTES}
use Rattle.pm_perm.proofs.LeastCases.{some_greatest}
use Rattle.pm_cli.specs.declared.class.Size.{Size}
use Rattle.pm_cli.specs.declared.close.Trees.TheVariants.{Blossoming}
use Rattle.pm_cli.specs.declared.command.Command.{Command}
use Rattle.pm_cli.specs.declared.command.Command.TheVariants.{Reads, Makes}
use Rattle.pm_cli.specs.declared.command.Maker.{Maker}
use Rattle.pm_cli.specs.declared.command.Maker.TheVariants.{Draw, Trip, Census}
use Rattle.pm_cli.specs.declared.command.Reader.{Reader}
use Rattle.pm_cli.specs.declared.command.Reader.TheVariants.{Close, OpenEulerian, OfMap, Check, Unsample, Sample}
use Rattle.pm_cli.specs.declared.refusal.Limit.TheVariants.{Bytes}
use Rattle.pm_cli.specs.declared.refusal.Refusal.TheVariants.{Usage, Limited}
use Rattle.pm_cli.specs.Answer.{Answers, AnswersReader, AnswersSize, no_command, too_long, of_file, of_size}
use Rattle.pm_cli.specs.Classes.{sampler_of, sized, IsSize, counts_of}
use Rattle.pm_cli.specs.Commands.{IsReader, Spells, Begins, IsNoCommand}
use Rattle.pm_cli.specs.Laws.{IsAnswered, HasSomeAnswer}
use Rattle.pm_cli.specs.MapAnswers.{task_relation, opening}
use Rattle.pm_cli.specs.TreeKinds.{kind_of}
use Rattle.pm_cli.proofs.CensusRecords.{counts_answered}
use Rattle.pm_cli.proofs.ClassLaws.{AreSamplers, sized_laws, most, count_laws}
use Rattle.pm_cli.proofs.SomeClosing.{closes_answered}
use Rattle.pm_cli.proofs.MapRelations.{map_answered}
use Rattle.pm_cli.proofs.SomeSampling.{samples_answered, draws_answered, trips_answered}
use Rattle.pm_cli.proofs.SomeUnsampling.{unsamples_answered}
use Rattle.pm_cli.proofs.TaskLaws.{task_laws, opening_laws}
use Rattle.pm_cli.proofs.TreeLines.{kind_laws}

-- words are those of a command, or of none, where a greatest number of them begin one
spelled_or_not : (words : List (List ℕ)) → ((command : Command) → Spells words command → ⊥) → ((k : ℕ) → IsNoCommand words k → ⊥) → ⊥
spelled_or_not words spelled none =
    some_greatest (Begins words) (length words) (record { command = Reads (Close Blossoming); is_command = tt; within = omega arith; same = refl })
    (λ k begins top. none k (record { none = spelled; begins = begins; greatest = λ j other. top j other.within other }))

module _ (laws : AreSamplers) where
  reads_answered : (reader : Reader) → IsReader reader → (bytes : List ℕ) → IsAnswered (AnswersReader reader bytes)
  reads_answered (Close trees) is bytes = closes_answered (kind_of trees) (kind_laws trees) bytes
  reads_answered OpenEulerian is bytes = map_answered opening opening_laws bytes
  reads_answered (OfMap task) is bytes = map_answered (task_relation task) (task_laws task) bytes
  reads_answered (Check c) is bytes = map_answered (counts_of c) (count_laws laws c) bytes
  reads_answered (Unsample c) is bytes = unsamples_answered (sampler_of c) (laws c) (most c) bytes
  reads_answered (Sample size) is bytes = samples_answered (sized size) (sized_laws laws size is) bytes

  makes_answered : (task : Maker) (size : Size) → IsSize size → IsAnswered (AnswersSize task (sized size))
  makes_answered (Draw seed count) size is = draws_answered (sized size) (sized_laws laws size is) seed count
  makes_answered (Trip seed) size is = trips_answered (sized size) (sized_laws laws size is) seed
  makes_answered Census size is = counts_answered (sized size) (sized_laws laws size is)

  command_answered : (words : List (List ℕ)) (bytes : List ℕ) (command : Command) → Spells words command → IsAnswered (Answers words bytes)
  command_answered words bytes (Reads reader) spells told = elim (cases_lt MAX_BYTES (length bytes)) [
    | inl long ↦ told (Err (Limited Bytes)) (too_long reader spells long)
    | inr short ↦ reads_answered reader spells.is_command bytes (λ answer is. told answer (of_file reader spells short answer is))
  ]
  command_answered words bytes (Makes task size) spells told =
      makes_answered task size (let is = spells.is_command in is.1) (λ answer is. told answer (of_size task size spells answer is))

  pub has_some_answer : HasSomeAnswer
  has_some_answer words bytes told = spelled_or_not words (λ command spells. command_answered words bytes command spells told) (λ k none. told (Err (Usage k)) (no_command k none))
