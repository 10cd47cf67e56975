-- The laws of files, by words.
use Rattle.std.proofs.Common.{◌≡◌, ℕ, ◌≤◌, List, length, refl, subst}
use Rattle.std.specs.Prelude.{Result, Ok}
use Rattle.pm_io.specs.declared.TheConstants.{MAX_BYTES}
use Rattle.pm_cli.specs.declared.class.Checked.TheVariants.{Sampled}
use Rattle.pm_cli.specs.declared.close.Trees.TheVariants.{Blossoming}
use Rattle.pm_cli.specs.declared.command.Command.TheVariants.{Reads, Makes}
use Rattle.pm_cli.specs.declared.command.MapTask.{MapTask}
use Rattle.pm_cli.specs.declared.command.MapTask.TheVariants.{Canon, Medial, Unmedial, Dual}
use Rattle.pm_cli.specs.declared.command.Reader.{Reader}
use Rattle.pm_cli.specs.declared.command.Reader.TheVariants.{Close, OpenEulerian, OfMap, Check, Unsample, Sample}
use Rattle.pm_cli.specs.declared.refusal.Refusal.{Refusal}
use Rattle.pm_cli.specs.Answer.{Answers, no_command, too_long, of_file, of_size, AnswersReader}
use Rattle.pm_cli.specs.Classes.{class_of}
use Rattle.pm_cli.specs.Commands.{IsReader, Spells, spelling}
use Rattle.pm_cli.specs.Laws.{AnswersByWords, ClosedTreesOpen, OpenedMapsClose, PrintsMap, PrintedMapsStay, ImagesReturn, DualsReturn, MedialsReturn, UnmedialsReturn, SampledListsReturn, SampledMapsAreCounted, UnsampledPairsReturn}
use Rattle.pm_cli.specs.MapAnswers.{PrintsImage, counts_line}
use Rattle.pm_cli.proofs.ClassLaws.{AreSamplers}
use Rattle.pm_cli.proofs.CommandWords.{one_command}
use Rattle.pm_cli.proofs.OneAnswer.{same_reader, reads_or_makes}
use Rattle.pm_cli.proofs.ImagesAgain.{duals_return, medials_return, unmedials_return}
use Rattle.pm_cli.proofs.OpenedAgain.{opened_again, closed_again, opened_within}
use Rattle.pm_cli.proofs.PrintedAgain.{printed, printed_within, printed_maps_stay}
use Rattle.pm_cli.proofs.SampleFiles.{sampled_lists_return, sampled_maps_are_counted, sample_within}
use Rattle.pm_cli.proofs.SampledAgain.{sampled_again, unsampled_within}

-- the words of a command have the answer of that command
pub of_reader : (words : List (List ℕ)) (reader : Reader) (bytes text : List ℕ) (answer : Result (List ℕ) Refusal) → Spells words (Reads reader) → Answers words bytes answer → answer ≡ Ok text
    → AnswersReader reader bytes (Ok text)
of_reader words reader bytes text _ spells (no_command k none) e = absurd (none.none (Reads reader) spells)
of_reader words reader bytes text _ spells (too_long other x long) e = cc
of_reader words reader bytes text _ spells (of_file other x within answer h) e =
    subst (λ (r : Reader). AnswersReader r bytes (Ok text)) (same_reader (one_command words (Reads other) (Reads reader) x spells)) (subst (AnswersReader other bytes) e h)
of_reader words reader bytes text _ spells (of_size task size x answer h) e = absurd (reads_or_makes (one_command words (Reads reader) (Makes task size) spells x))

by_words : (reader : Reader) → IsReader reader → (bytes text : List ℕ) → AnswersByWords reader bytes (Ok text) → AnswersReader reader bytes (Ok text)
by_words reader is bytes text h = of_reader (spelling (Reads reader)) reader bytes text (Ok text) (record { is_command = is; same = refl }) h refl

to_words : (reader : Reader) → IsReader reader → (bytes text : List ℕ) → length bytes ≤ MAX_BYTES → AnswersReader reader bytes (Ok text) → AnswersByWords reader bytes (Ok text)
to_words reader is bytes text within h = of_file reader (record { is_command = is; same = refl }) within (Ok text) h

pub opened_by_words : ClosedTreesOpen AnswersByWords
opened_by_words bytes text x =
    let closes = by_words (Close Blossoming) tt bytes text x in
    to_words OpenEulerian tt text bytes (printed_within text (printed (Close Blossoming) bytes text tt closes)) (opened_again bytes text closes)

pub closed_by_words : OpenedMapsClose AnswersByWords
closed_by_words bytes text canonical x y =
    let opens = by_words OpenEulerian tt bytes text x in
    to_words (Close Blossoming) tt text canonical (opened_within bytes text opens) (closed_again bytes text canonical opens (by_words (OfMap Canon) tt bytes canonical y))

reader_of : (reader : Reader) → PrintsMap reader → IsReader reader
reader_of (Close trees) is = tt
reader_of OpenEulerian is = tt
reader_of (OfMap task) is = tt
reader_of (Check class) is = tt
reader_of (Unsample class) is = tt
reader_of (Sample size) is = absurd is

pub printed_by_words : PrintedMapsStay AnswersByWords
printed_by_words reader bytes text is x =
    let prints = by_words reader (reader_of reader is) bytes text x in
    to_words (OfMap Canon) tt text text (printed_within text (printed reader bytes text is prints)) (printed_maps_stay reader bytes text is prints)

-- an image of an image, by words
image_by_words : (there back : MapTask) → PrintsImage there → ImagesReturn AnswersReader (OfMap there) (OfMap back) → ImagesReturn AnswersByWords (OfMap there) (OfMap back)
image_by_words there back is returns bytes text canonical x y =
    let turns = by_words (OfMap there) tt bytes text x in
    to_words (OfMap back) tt text canonical (printed_within text (printed (OfMap there) bytes text is turns))
    (returns bytes text canonical turns (by_words (OfMap Canon) tt bytes canonical y))

pub duals_by_words : DualsReturn AnswersByWords
duals_by_words = image_by_words Dual Dual tt duals_return

pub medials_by_words : MedialsReturn AnswersByWords
medials_by_words = image_by_words Medial Unmedial tt medials_return

pub unmedials_by_words : UnmedialsReturn AnswersByWords
unmedials_by_words = image_by_words Unmedial Medial tt unmedials_return

pub lists_by_words : AreSamplers → SampledListsReturn AnswersByWords
lists_by_words laws size bytes text is x =
    let samples = by_words (Sample size) is bytes text x in
    to_words (Unsample (class_of size)) tt text bytes (sample_within laws size bytes text is samples) (sampled_lists_return laws size bytes text is samples)

pub counted_by_words : AreSamplers → SampledMapsAreCounted AnswersByWords
counted_by_words laws size bytes text is x =
    let samples = by_words (Sample size) is bytes text x in
    let read = sampled_maps_are_counted laws size bytes text is samples in
    let has = read.holds in
    record {
      choices = read.choices;
      spelled = read.spelled;
      holds = record {
        map = has.map;
        residue = has.residue;
        sampled = has.sampled;
        counted = to_words (Check (Sampled (class_of size))) tt text (counts_line has.map) (sample_within laws size bytes text is samples) has.counted;
      };
    }

pub sampled_by_words : AreSamplers → UnsampledPairsReturn AnswersByWords
sampled_by_words laws class bytes text canonical x y =
    let unsamples = by_words (Unsample class) tt bytes text x in
    let again = sampled_again laws class bytes text canonical unsamples (by_words (OfMap Canon) tt bytes canonical y) in
    record {
      size = again.size;
      is_of = again.is_of;
      admissible = again.admissible;
      of_map = again.of_map;
      prefix = again.prefix;
      line = again.line;
      is_line = again.is_line;
      ends_so = again.ends_so;
      sampled = to_words (Sample again.size) again.admissible text _ (unsampled_within laws class bytes text unsamples) again.sampled;
    }
