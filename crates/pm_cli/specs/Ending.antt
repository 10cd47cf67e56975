-- How a run ends, and what stands in its streams then.
use Rattle.std.specs.Prelude.{◌≡◌, ℕ, ◌⊎◌, List, [], ◌++◌, take, Option, Some, Result, Ok, Err}
use Rattle.pm_io.specs.Bytes.{added}
use Rattle.pm_io.specs.Faults.{FaultsRose}
use Rattle.pm_cli.specs.declared.class.Size.{Size}
use Rattle.pm_cli.specs.declared.command.Command.TheVariants.{Reads, Makes}
use Rattle.pm_cli.specs.declared.command.Maker.{Maker}
use Rattle.pm_cli.specs.declared.command.Maker.TheVariants.{Draw, Trip, Census}
use Rattle.pm_cli.specs.declared.command.Reader.{Reader}
use Rattle.pm_cli.specs.declared.refusal.Stop.{Stop}
use Rattle.pm_cli.specs.declared.refusal.Stop.TheVariants.{Refused, Read, Write, Memory}
use Rattle.pm_cli.specs.Answer.{Answers}
use Rattle.pm_cli.specs.Classes.{AtSize, sized}
use Rattle.pm_cli.specs.Commands.{Spells}
use Rattle.pm_cli.specs.Counting.{HasFirstEntries}
use Rattle.pm_cli.specs.Drawing.{IsDrawnRecord}
use Rattle.pm_cli.specs.Lines.{line_of}
use Rattle.pm_cli.specs.Records.{HasFirstRecords}

-- the words are no command that reads
abbrev pub ReadNothing : List (List ℕ) → Type 0
ReadNothing words = (reader : Reader) → Spells words (Reads reader) → ⊥

-- the words are no command that reads nothing
abbrev pub ReadInput : List (List ℕ) → Type 0
ReadInput words = (task : Maker) (size : Size) → Spells words (Makes task size) → ⊥

-- the first records of a task that writes its answer record by record, which `trip` doesn't
abbrev pub IsFirstRecords : Maker → AtSize → List ℕ → Type 0
IsFirstRecords (Draw seed count) at text = HasFirstRecords (IsDrawnRecord at.choice_limits at.samples seed) count text
IsFirstRecords (Trip seed) at text = ⊥
IsFirstRecords Census at text = HasFirstEntries at.choice_limits at.samples text

-- the words are no command that writes its answer record by record
pub record WriteWhole (words : List (List ℕ)) : Type 0 where
  pub no_drawing : (seed count : ℕ) (size : Size) → Spells words (Makes (Draw seed count) size) → ⊥
  pub no_census : (size : Size) → Spells words (Makes Census size) → ⊥

-- the input holds these bytes, where it tells them; where the words read nothing, any bytes serve
abbrev pub IsInput : List (List ℕ) → Option (List ℕ) → List ℕ → Type 0
IsInput words left bytes = (left ≡ Some bytes) ⊎ ReadNothing words

-- some text is the answer, and its first n bytes were added to the output
pub record HasWritten (words : List (List ℕ)) (bytes : List ℕ) (old new : Option (List ℕ)) : Type 0 where
  pub text : List ℕ
  pub answers : Answers words bytes (Ok text)
  pub prefix : ℕ
  pub written : new ≡ added old (take prefix text)

-- some text is the answer, and it was added to the output whole
pub record HasAnswered (words : List (List ℕ)) (bytes : List ℕ) (old new : Option (List ℕ)) : Type 0 where
  pub text : List ℕ
  pub answers : Answers words bytes (Ok text)
  pub written : new ≡ added old text

-- some text is the answer of a command that writes record by record, and its first records were added to the output
pub record HasBegun (words : List (List ℕ)) (bytes : List ℕ) (old new : Option (List ℕ)) : Type 0 where
  pub text : List ℕ
  pub answers : Answers words bytes (Ok text)
  pub task : Maker
  pub size : Size
  pub spells : Spells words (Makes task size)
  pub begun : List ℕ
  pub rest : List ℕ
  pub records : IsFirstRecords task (sized size) begun
  pub whole : text ≡ begun ++ rest
  pub written : new ≡ added old begun

-- What was added to the output: the whole answer; nothing where the words and bytes are refused, as they are then, and
-- where the input failed; a prefix of the answer where the output failed; nothing where memory was wanting, or the first
-- records of an answer that is written record by record.
abbrev pub EndsBy : List (List ℕ) → List ℕ → Option (List ℕ) → Option (List ℕ) → Result (Unit {0}) Stop → Type 0
EndsBy words bytes old new (Ok done) = HasAnswered words bytes old new
EndsBy words bytes old new (Err (Refused refusal)) = Answers words bytes (Err refusal) × (new ≡ old)
EndsBy words bytes old new (Err Read) = new ≡ old
EndsBy words bytes old new (Err Write) = HasWritten words bytes old new
EndsBy words bytes old new (Err Memory) = (new ≡ old) ⊎ HasBegun words bytes old new

-- the same for all bytes that the input may hold
abbrev pub Ends : List (List ℕ) → Option (List ℕ) → Option (List ℕ) → Option (List ℕ) → Result (Unit {0}) Stop → Type 0
Ends words left old new end = (bytes : List ℕ) → IsInput words left bytes → EndsBy words bytes old new end

-- the line of the end was added to standard error, or that failed
abbrev pub IsTold : Option (List ℕ) → Option (List ℕ) → ℕ → ℕ → Result (Unit {0}) Stop → Type 0
IsTold old new faults_old faults_new end = (new ≡ added old (line_of end)) ⊎ FaultsRose faults_old faults_new

-- where the input told its bytes, none are left
abbrev pub HasNothingLeft : Option (List ℕ) → Option (List ℕ) → Type 0
HasNothingLeft old new = (left : List ℕ) → old ≡ Some left → new ≡ Some []
