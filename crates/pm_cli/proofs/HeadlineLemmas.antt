-- The headline, from how a run ends and from the laws of the classes.
use Rattle.std.proofs.Common.{◌≡◌, ◌≢◌, ℕ, ◌≤◌, inl, inr, List, [], length, append-nil, refl, sym, ap, ◌∙◌, subst, arith}
use Rattle.std.specs.Prelude.{Option, None, Some, Result, Ok, Err}
use Rattle.pm_io.specs.declared.TheConstants.{MAX_BYTES}
use Rattle.pm_io.specs.Bytes.{added}
use Rattle.pm_io.specs.Faults.{FaultsRose}
use Rattle.pm_map.specs.Rotation.{RotationSystem}
use Rattle.pm_cli.specs.declared.class.Size.{Size}
use Rattle.pm_cli.specs.declared.command.Command.TheVariants.{Reads, Makes}
use Rattle.pm_cli.specs.declared.command.Reader.{Reader}
use Rattle.pm_cli.specs.declared.command.Reader.TheVariants.{Unsample, Sample}
use Rattle.pm_cli.specs.declared.refusal.Refusal.{Refusal}
use Rattle.pm_cli.specs.declared.refusal.Stop.{Stop}
use Rattle.pm_cli.specs.declared.refusal.Stop.TheVariants.{Refused, Read, Write, Memory}
use Rattle.pm_cli.specs.Answer.{Answers, no_command, too_long, of_file, of_size, AnswersReader}
use Rattle.pm_cli.specs.Classes.{AtSize, sized, class_of, class_at, Sampler, sampler_of}
use Rattle.pm_cli.specs.Commands.{Spells}
use Rattle.pm_cli.specs.Ending.{HasAnswered, Ends, EndsBy, IsTold}
use Rattle.pm_cli.specs.Headline.{Run, IsQuiet, IsPairFile, IsTextOfGiven, IsTextOfGiving, IsDone, IsRefused, SamplesEachList, UnsamplesEachPair, ListsAndPairsAreOneToOne, IsOther, no_list, no_pair, RefusesAllElse, IsHeadline}
use Rattle.pm_cli.specs.Lines.{status_of, line}
use Rattle.pm_cli.specs.Unsampling.{Unsamples}
use Rattle.pm_cli.specs.steps.ClassLaws.{IsAtSize}
use Rattle.pm_cli.proofs.ByWords.{of_reader}
use Rattle.pm_cli.proofs.ClassLaws.{AreSamplers, by_size, of_measure, sized_laws}
use Rattle.pm_cli.proofs.CommandWords.{one_command}
use Rattle.pm_cli.proofs.HeadlineFiles.{list_file_few, pair_file_few, list_sampled, sampled_list, HasPairFile, IsTextWhere, unsampled_file, pair_unsampled}
use Rattle.pm_cli.proofs.OneAnswer.{has_one_answer, same_reader, reads_or_makes}
use Rattle.pm_cli.proofs.SampledAgain.{unsampled_pair}

-- a run that no stream and no want of memory ended: it printed the answer, or it refused
data Outcome (words : List (List ℕ)) (bytes : List ℕ) (old new : Option (List ℕ)) : Result (Unit {0}) Stop → Type 0 where
  printed : (done : Unit {0}) → HasAnswered words bytes old new → Outcome words bytes old new (Ok done)
  refused : (refusal : Refusal) → Answers words bytes (Err refusal) → new ≡ old → Outcome words bytes old new (Err (Refused refusal))

outcome : (words : List (List ℕ)) (bytes : List ℕ) (old new : Option (List ℕ)) (end : Result (Unit {0}) Stop) → EndsBy words bytes old new end
    → status_of end ≢ 5 → status_of end ≢ 8 → status_of end ≢ 9 → Outcome words bytes old new end
outcome words bytes old new (Ok done) h read write memory = printed done h
outcome words bytes old new (Err (Refused refusal)) h read write memory = refused refusal h.0 h.1
outcome words bytes old new (Err Read) h read write memory = absurd (read refl)
outcome words bytes old new (Err Write) h read write memory = absurd (write refl)
outcome words bytes old new (Err Memory) h read write memory = absurd (memory refl)

-- a stream to which nothing was added
pub added_nothing : (held : Option (List ℕ)) → held ≡ added held []
added_nothing None = refl
added_nothing (Some held) = ap Some (sym (append-nil held))

-- where each answer is a text of some kind, the run printed one
is_done : (run : Run) (bytes : List ℕ) (end : Result (Unit {0}) Stop) (is_text : List ℕ → Type 0) → run.status ≡ status_of end
    → Outcome run.words bytes run.output.before run.output.after end → ((answer : Result (List ℕ) Refusal) → Answers run.words bytes answer → IsTextWhere is_text answer) → IsDone run is_text
is_done run bytes _ is_text status (printed done h) each = record { text = h.text; is = each (Ok h.text) h.answers; done = status; printed = h.written }
is_done run bytes _ is_text status (refused refusal h same) each = absurd (each (Err refusal) h)

-- and where no answer is a text, it refused
is_refused : (run : Run) (bytes : List ℕ) (end : Result (Unit {0}) Stop) → AreSamplers → run.status ≡ status_of end
    → IsTold run.error.before run.error.after run.error.faults_before run.error.faults_after end
    → Outcome run.words bytes run.output.before run.output.after end → ((text : List ℕ) → Answers run.words bytes (Ok text) → ⊥) → IsRefused run bytes
is_refused run bytes _ laws status told (printed done h) none = absurd (none h.text h.answers)
is_refused run bytes _ laws status told (refused refusal h same) none = record {
  refusal = refusal;
  answers = h;
  only = λ other x. has_one_answer laws run.words bytes other (Err refusal) x h;
  status = status;
  nothing_printed = same;
  told = λ calm. elim told [
    | inl line ↦ line
    | inr rose ↦ absurd (calm rose)
  ];
}

-- the words of a command that reads, and bytes within the limit, have the answers of that command
by_reader : (words : List (List ℕ)) (reader : Reader) (bytes : List ℕ) (answer : Result (List ℕ) Refusal) → Spells words (Reads reader) → length bytes ≤ MAX_BYTES → Answers words bytes answer
    → AnswersReader reader bytes answer
by_reader words reader bytes _ spells within (no_command k none) = absurd (none.none (Reads reader) spells)
by_reader words reader bytes _ spells within (too_long other x long) = absurd (omega arith)
by_reader words reader bytes _ spells within (of_file other x short answer h) =
    subst (λ (r : Reader). AnswersReader r bytes answer) (same_reader (one_command words (Reads other) (Reads reader) x spells)) h
by_reader words reader bytes _ spells within (of_size task size x answer h) = absurd (reads_or_makes (one_command words (Reads reader) (Makes task size) spells x))

-- what is answered to the file of a pair
pair_answered : AreSamplers → (size : Size) (map : RotationSystem) (residue bytes : List ℕ) → IsPairFile (sized size) map residue bytes → (answer : Result (List ℕ) Refusal)
    → Unsamples (class_at (class_of size)) bytes answer → IsTextWhere (IsTextOfGiving (sized size) map residue) answer
pair_answered laws size map residue bytes file =
    by_size (λ class at. IsPairFile at map residue bytes → (answer : Result (List ℕ) Refusal) → Unsamples class bytes answer → IsTextWhere (IsTextOfGiving at map residue) answer)
    (λ S is measure admissible. pair_unsampled S is measure map residue bytes) laws size file.admissible file

module _ (run : Run) (end : Result (Unit {0}) Stop) (laws : AreSamplers) (status : run.status ≡ status_of end)
    (ends : Ends run.words run.input.before run.output.before run.output.after end)
    (told : IsTold run.error.before run.error.after run.error.faults_before run.error.faults_after end)
    (read : run.status ≡ 5 → FaultsRose run.input.faults_before run.input.faults_after)
    (write : run.status ≡ 8 → FaultsRose run.output.faults_before run.output.faults_after) where
  quiet_outcome : (bytes : List ℕ) → IsQuiet run bytes → Outcome run.words bytes run.output.before run.output.after end
  quiet_outcome bytes quiet =
      outcome run.words bytes run.output.before run.output.after end (ends bytes (inl quiet.holds)) (λ e. quiet.read (read (status ∙ e))) (λ e. quiet.written (write (status ∙ e)))
      (λ e. quiet.no_want (status ∙ e))

  samples_each_list : SamplesEachList run
  samples_each_list size choices bytes quiet spells file =
      let at : AtSize = sized size in
      let is : IsAtSize at = sized_laws laws size spells.is_command in
      let given = list_sampled at is choices bytes file in
      let within = list_file_few at is choices bytes file in
      let answers : Answers run.words bytes (Ok given.text) = of_file (Sample size) spells within (Ok given.text) given.sampled in
      is_done run bytes end (IsTextOfGiven at choices) status (quiet_outcome bytes quiet)
      (λ answer h. subst (IsTextWhere (IsTextOfGiven at choices)) (has_one_answer laws run.words bytes (Ok given.text) answer answers h) given.is)

  unsamples_each_pair : UnsamplesEachPair run
  unsamples_each_pair size map residue bytes quiet spells file =
      let at : AtSize = sized size in
      let is : IsAtSize at = sized_laws laws size file.admissible in
      let within = pair_file_few at is map residue bytes file in
      is_done run bytes end (IsTextOfGiving at map residue) status (quiet_outcome bytes quiet)
      (λ answer h. pair_answered laws size map residue bytes file answer (by_reader run.words (Unsample (class_of size)) bytes answer spells within h))

  one_to_one : ListsAndPairsAreOneToOne
  one_to_one size admissible =
      let is = sized_laws laws size admissible in
      let one = is.one_to_one in
      record { one_pair = one.one_sample; one_list = one.one_list }

  no_text : (bytes text : List ℕ) → IsOther run.words bytes → Answers run.words bytes (Ok text) → ⊥
  no_text bytes text (no_list size spells none) h =
      let at : AtSize = sized size in
      let list = sampled_list at (sized_laws laws size spells.is_command) bytes text (Ok text) (of_reader run.words (Sample size) bytes text (Ok text) spells h refl) refl in
      none list.0 list.1
  no_text bytes text (no_pair c spells none) h =
      let S : Sampler = sampler_of c in
      let pair = unsampled_file S (laws c) bytes text (unsampled_pair (class_at c) bytes text (Ok text) (of_reader run.words (Unsample c) bytes text (Ok text) spells h refl) refl) in
      let sized_pair = of_measure c (λ at. HasPairFile at bytes) pair.0 pair.1 in
      let is = sized_pair.holds in
      none sized_pair.size is.map is.residue sized_pair.is_of is.is

  refuses_all_else : RefusesAllElse run
  refuses_all_else bytes quiet other = is_refused run bytes end laws status told (quiet_outcome bytes quiet) (λ text h. no_text bytes text other h)

  pub headline : IsHeadline run
  headline = record { samples_each_list = samples_each_list; unsamples_each_pair = unsamples_each_pair; one_to_one = one_to_one; refuses_all_else = refuses_all_else }
