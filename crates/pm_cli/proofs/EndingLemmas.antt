-- How a run ends, from how its steps ended.
use Rattle.std.proofs.Common.{◌≡◌, ◌≢◌, ℕ, inl, inr, List, ◌++◌, length, take, refl, sym, ap, ◌∙◌, subst}
use Rattle.std.specs.Prelude.{Option, Some, Result, Ok, Err, Vec}
use Rattle.std.specs.declared.alloc.Global.{Global}
use Rattle.std.proofs.Math.Seq.{take-length}
use Rattle.pm_io.specs.Bytes.{added}
use Rattle.pm_io.specs.Faults.{FaultsRose}
use Rattle.pm_cli.specs.declared.class.Size.{Size}
use Rattle.pm_cli.specs.declared.command.Command.TheVariants.{Reads, Makes}
use Rattle.pm_cli.specs.declared.command.Maker.{Maker}
use Rattle.pm_cli.specs.declared.command.Reader.{Reader}
use Rattle.pm_cli.specs.declared.refusal.Limit.TheVariants.{Bytes, Letters, Edges, Lists}
use Rattle.pm_cli.specs.declared.refusal.Refusal.{Refusal}
use Rattle.pm_cli.specs.declared.refusal.Refusal.TheVariants.{Usage, Text, Limited, Map, Tree, Invalid}
use Rattle.pm_cli.specs.declared.refusal.Stop.{Stop}
use Rattle.pm_cli.specs.declared.refusal.Stop.TheVariants.{Refused, Read, Write, Memory}
use Rattle.pm_cli.specs.Answer.{Answers, no_command, too_long, of_file, of_size, AnswersReader, AnswersSize}
use Rattle.pm_cli.specs.Classes.{sized}
use Rattle.pm_cli.specs.Commands.{Spells, IsNoCommand}
use Rattle.pm_cli.specs.Ending.{IsInput, IsFirstRecords, Ends, EndsBy}
use Rattle.pm_cli.specs.Lines.{status_of_stop}
use Rattle.pm_cli.specs.steps.Answering.{IsAnswerBy}
use Rattle.pm_cli.specs.steps.Streams.{IsWritingRecords, HasRead, IsReading, IsWriting, IsToldFor}

-- a flush that failed after a whole write: the whole text is the prefix that was added
pub flush_failed : (text : List ℕ) (old mid new : Option (List ℕ)) (faults_old faults_mid faults_new : ℕ)
    → mid ≡ added old text → new ≡ mid → faults_mid ≡ faults_old → FaultsRose faults_mid faults_new
    → ((n : ℕ) × (new ≡ added old (take n text))) × FaultsRose faults_old faults_new
flush_failed text old mid new faults_old faults_mid faults_new whole stays calm rose =
    ((length text, stays ∙ whole ∙ ap (added old) (sym (take-length text))), subst (λ (f : ℕ). FaultsRose f faults_new) calm rose)

-- the bytes that the input holds, for a command that reads
told : (words : List (List ℕ)) (reader : Reader) (left : Option (List ℕ)) (bytes : List ℕ) → Spells words (Reads reader) → IsInput words left bytes → left ≡ Some bytes
told words reader left bytes spells input = elim input [ inl h ↦ h | inr nothing ↦ absurd (nothing reader spells) ]

-- words that are no command
pub ends_unread : (words : List (List ℕ)) (left old : Option (List ℕ)) (k : ℕ) → IsNoCommand words k → Ends words left old old (Err (Refused (Usage k)))
ends_unread words left old k none bytes input = (no_command k none, refl)

-- an input that wasn't read
pub ends_reading : (words : List (List ℕ)) (reader : Reader) (left after old : Option (List ℕ)) (faults_old faults_new : ℕ) (stop : Stop)
    → Spells words (Reads reader) → IsReading left after faults_old faults_new (Err stop) → Ends words left old old (Err stop)
ends_reading words reader left after old f g (Refused (Limited Bytes)) spells why bytes input =
    (too_long reader spells (why.over bytes (told words reader left bytes spells input)), refl)
ends_reading words reader left after old f g (Refused (Limited (Letters letters))) spells why bytes input = absurd why
ends_reading words reader left after old f g (Refused (Limited (Edges edges))) spells why bytes input = absurd why
ends_reading words reader left after old f g (Refused (Limited Lists)) spells why bytes input = absurd why
ends_reading words reader left after old f g (Refused (Usage matched)) spells why bytes input = absurd why
ends_reading words reader left after old f g (Refused (Map rule)) spells why bytes input = absurd why
ends_reading words reader left after old f g (Refused (Text line)) spells why bytes input = absurd why
ends_reading words reader left after old f g (Refused (Tree rule)) spells why bytes input = absurd why
ends_reading words reader left after old f g (Refused (Invalid list)) spells why bytes input = absurd why
ends_reading words reader left after old f g Read spells why bytes input = refl
ends_reading words reader left after old f g Memory spells why bytes input = inl refl
ends_reading words reader left after old f g Write spells why bytes input = absurd why

-- what the command answers to the bytes read is the answer to the bytes that the input held
answers_file : (words : List (List ℕ)) (reader : Reader) (left after : Option (List ℕ)) (f g : ℕ) (read bytes : List ℕ) (answer : Result (List ℕ) Refusal)
    → Spells words (Reads reader) → HasRead left after f g read → AnswersReader reader read answer → IsInput words left bytes → Answers words bytes answer
answers_file words reader left after f g read bytes answer spells was_read answers input =
    let same : read ≡ bytes = (was_read.whole bytes (told words reader left bytes spells input)).0 in
    subst (λ (b : List ℕ). Answers words b answer) same (of_file reader spells was_read.within answer answers)

-- a file that is refused, or memory that is wanting
pub ends_answering : (words : List (List ℕ)) (reader : Reader) (left after old : Option (List ℕ)) (f g : ℕ) (read given : List ℕ) (stop : Stop)
    → Spells words (Reads reader) → HasRead left after f g read → given ≡ read → IsAnswerBy (AnswersReader reader given) (Err stop) → Ends words left old old (Err stop)
ends_answering words reader left after old f g read given stop spells was_read same answers =
    by_stop words reader left after old f g read stop spells was_read (subst (λ (b : List ℕ). IsAnswerBy (AnswersReader reader b) (Err stop)) same answers) where
      by_stop : (words : List (List ℕ)) (reader : Reader) (left after old : Option (List ℕ)) (f g : ℕ) (read : List ℕ) (stop : Stop)
          → Spells words (Reads reader) → HasRead left after f g read → IsAnswerBy (AnswersReader reader read) (Err stop) → Ends words left old old (Err stop)
      by_stop words reader left after old f g read (Refused refusal) spells was_read answers bytes input =
          (answers_file words reader left after f g read bytes (Err refusal) spells was_read answers input, refl)
      by_stop words reader left after old f g read Memory spells was_read answers bytes input = inl refl
      by_stop words reader left after old f g read Read spells was_read answers bytes input = absurd answers
      by_stop words reader left after old f g read Write spells was_read answers bytes input = absurd answers

-- an answer that was written, or not whole
written_by : (words : List (List ℕ)) (reader : Reader) (left after old new : Option (List ℕ)) (f g h i : ℕ) (read text : List ℕ) (result : Result (Unit {0}) Stop)
    → Spells words (Reads reader) → HasRead left after f g read → AnswersReader reader read (Ok text) → IsWriting text old new h i result → Ends words left old new result
written_by words reader left after old new f g h i read text (Ok done) spells was_read answers written bytes input = record {
  text = text;
  answers = answers_file words reader left after f g read bytes (Ok text) spells was_read answers input;
  written = written.0;
}
written_by words reader left after old new f g h i read text (Err Write) spells was_read answers written bytes input = record {
  text = text;
  answers = answers_file words reader left after f g read bytes (Ok text) spells was_read answers input;
  prefix = written.0.0;
  written = written.0.1;
}
written_by words reader left after old new f g h i read text (Err Read) spells was_read answers written bytes input = absurd written
written_by words reader left after old new f g h i read text (Err Memory) spells was_read answers written bytes input = absurd written
written_by words reader left after old new f g h i read text (Err (Refused refusal)) spells was_read answers written bytes input = absurd written

pub ends_writing : (words : List (List ℕ)) (reader : Reader) (left after old new : Option (List ℕ)) (f g h i : ℕ) (read given : List ℕ) (text : Vec ℕ Global) (sent : List ℕ)
    (result : Result (Unit {0}) Stop) → Spells words (Reads reader) → HasRead left after f g read → given ≡ read → IsAnswerBy (AnswersReader reader given) (Ok text)
    → sent ≡ text.items → IsWriting sent old new h i result → Ends words left old new result
ends_writing words reader left after old new f g h i read given text sent result spells was_read same answers same_text written =
    written_by words reader left after old new f g h i read text.items result spells was_read
    (subst (λ (b : List ℕ). AnswersReader reader b (Ok text.items)) same answers)
    (subst (λ (t : List ℕ). IsWriting t old new h i result) same_text written)

-- what is told accounts for the end as the stop does
pub ends_told : (words : List (List ℕ)) (left old new : Option (List ℕ)) (stop told : Stop) → Ends words left old new (Err stop) → IsToldFor stop told → Ends words left old new (Err told)
ends_told words left old new (Refused refusal) told ends is bytes input = elim is [
  | inl same ↦ subst (λ (t : Stop). EndsBy words bytes old new (Err t)) (sym same) (ends bytes input)
  | inr wanting ↦ subst (λ (t : Stop). EndsBy words bytes old new (Err t)) (sym wanting) (inl (ends bytes input).1)
]
ends_told words left old new Read told ends is bytes input = subst (λ (t : Stop). EndsBy words bytes old new (Err t)) (sym is) (ends bytes input)
ends_told words left old new Write told ends is bytes input = subst (λ (t : Stop). EndsBy words bytes old new (Err t)) (sym is) (ends bytes input)
ends_told words left old new Memory told ends is bytes input = subst (λ (t : Stop). EndsBy words bytes old new (Err t)) (sym is) (ends bytes input)

-- a stop that isn't told as a failed write is none
pub told_no_write : (stop told : Stop) → IsToldFor stop told → status_of_stop told ≢ 8 → stop ≢ Write
told_no_write (Refused refusal) told is no_write e = cc
told_no_write Read told is no_write e = cc
told_no_write Write told is no_write e = no_write (ap status_of_stop is)
told_no_write Memory told is no_write e = cc

-- nor is one that isn't told as a failed read
pub told_no_read : (stop told : Stop) → IsToldFor stop told → status_of_stop told ≢ 5 → stop ≢ Read
told_no_read (Refused refusal) told is no_read e = cc
told_no_read Read told is no_read e = no_read (ap status_of_stop is)
told_no_read Write told is no_read e = cc
told_no_read Memory told is no_read e = cc

-- records that were made and written, or not all
pub ends_making : (words : List (List ℕ)) (task : Maker) (size : Size) (left old new : Option (List ℕ)) (f g : ℕ) (end : Result (Unit {0}) Stop) → Spells words (Makes task size)
    → IsWritingRecords (AnswersSize task (sized size)) (IsFirstRecords task (sized size)) old new f g end → Ends words left old new end
ends_making words task size left old new f g (Ok done) spells made bytes input = record {
  text = made.0.text;
  answers = of_size task size spells (Ok made.0.text) made.0.holds;
  written = made.0.written;
}
ends_making words task size left old new f g (Err Write) spells made bytes input = record {
  text = made.0.text;
  answers = of_size task size spells (Ok made.0.text) made.0.holds;
  prefix = made.0.prefix;
  written = made.0.written;
}
ends_making words task size left old new f g (Err Memory) spells made bytes input =
    elim made.0 [
      | inl same ↦ inl same
      | inr begun ↦ inr (record {
        text = begun.begun ++ begun.rest;
        answers = of_size task size spells (Ok (begun.begun ++ begun.rest)) begun.holds;
        task = task;
        size = size;
        spells = spells;
        begun = begun.begun;
        rest = begun.rest;
        records = begun.records;
        whole = refl;
        written = begun.written;
      })
    ]
ends_making words task size left old new f g (Err Read) spells made bytes input = absurd made
ends_making words task size left old new f g (Err (Refused refusal)) spells made bytes input = (of_size task size spells (Err refusal) made.0, made.1)

-- want of memory is told as such
pub told_memory : (stop told : Stop) → IsToldFor stop told → stop ≡ Memory → status_of_stop told ≡ 9
told_memory (Refused refusal) told is e = cc
told_memory Read told is e = cc
told_memory Write told is e = cc
told_memory Memory told is e = ap status_of_stop is
