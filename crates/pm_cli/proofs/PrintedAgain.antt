-- What the commands print is the text of a canonical map, which is within the limit of bytes, and is read again.
use Rattle.std.proofs.Common.{ℕ, ◌*◌, ◌≤◌, List, [], length, length-append, refl, ap, subst, arith}
use Rattle.std.specs.Prelude.{None, Ok}
use Rattle.std.proofs.lemmas.List.{append-nil}
use Rattle.pm_io.specs.declared.TheConstants.{MAX_BYTES}
use Rattle.pm_limits.specs.declared.TheConstants.{MAX_EDGES}
use Rattle.pm_map.specs.Rotation.{RotationSystem, structure_of, IsRootedMap}
use Rattle.pm_map.proofs.SameMaps.{same_as_itself}
use Rattle.pm_mapfile.specs.Answers.{AnswersFile}
use Rattle.pm_mapfile.specs.MapFile.{lines_text}
use Rattle.pm_mapfile.specs.MapText.{IsMapText}
use Rattle.pm_mapfile.proofs.ReadAgainLemmas.{map_file_is_read_again}
use Rattle.pm_mapfile.proofs.TextLengths.{lines_few}
use Rattle.pm_cli.specs.declared.command.MapTask.TheVariants.{Canon}
use Rattle.pm_cli.specs.declared.command.Reader.{Reader}
use Rattle.pm_cli.specs.declared.command.Reader.TheVariants.{Close, OpenEulerian, OfMap, Check, Unsample, Sample}
use Rattle.pm_cli.specs.Answer.{AnswersReader}
use Rattle.pm_cli.specs.Laws.{PrintsMap, PrintedMapsStay}
use Rattle.pm_cli.specs.MapAnswers.{told, task_relation}
use Rattle.pm_cli.specs.TreeKinds.{kind_of}
use Rattle.pm_cli.proofs.OpenedAgain.{told_map, closed_word}
use Rattle.pm_cli.proofs.TaskLaws.{IsPrinted, printed_text, printed_image}
use Rattle.pm_cli.proofs.TreeLines.{kind_laws}

-- the text of a map within a limit is a map file of it
pub read_back : (m : RotationSystem) (limit : ℕ) (text : List ℕ) → IsRootedMap m → length m.sigma ≤ 2 * limit → IsMapText m text → AnswersFile text limit None (Ok m)
read_back m limit text rooted few is =
    subst (λ (file : List ℕ). AnswersFile file limit None (Ok m)) (append-nil text)
    (map_file_is_read_again m limit text [] None rooted few is (record { fit = tt; spelled = refl }))

pub printed_within : (text : List ℕ) → IsPrinted text → length text ≤ MAX_BYTES
printed_within text printed =
    let file = read_back printed.map MAX_EDGES text printed.rooted printed.rooted.few printed.is_text in
    let few = file.answered.few in
    omega (arith, few, lines_few file.lines file.are_lines few, ap length file.spelled, length-append (lines_text file.lines) file.rest, ap length file.is_residue.spelled)

-- `canon` answers it by itself
canon_stays : (text : List ℕ) → IsPrinted text → AnswersReader (OfMap Canon) text (Ok text)
canon_stays text printed = told text (record {
  residue = None;
  map = printed.map;
  answered = read_back printed.map MAX_EDGES text printed.rooted printed.rooted.few printed.is_text;
  holds = record {
    other = printed.map;
    rooted = printed.rooted;
    is_image = refl;
    is_text = record {
      canonical = printed.map;
      is_canonical = record { is_canonical = printed.canonical; is_same = same_as_itself (structure_of printed.map) };
      is_text = printed.is_text;
    };
  };
})

-- what these commands answer is the text of a canonical map
pub printed : (reader : Reader) (bytes text : List ℕ) → PrintsMap reader → AnswersReader reader bytes (Ok text) → IsPrinted text
printed (Close trees) bytes text is h =
    let closes = closed_word (kind_of trees) bytes text (Ok text) h refl in
    let closing = closes.holds in
    let laws = kind_laws trees in
    printed_text closing.closed text (laws.rooted closes.word closing.closed closing.is_closed) closing.has_text
printed OpenEulerian bytes text is h = absurd is
printed (OfMap task) bytes text is h = let x = told_map (task_relation task) bytes text (Ok text) h refl in printed_image task is x.map text x.holds
printed (Check class) bytes text is h = absurd is
printed (Unsample class) bytes text is h = absurd is
printed (Sample size) bytes text is h = absurd is

pub printed_maps_stay : PrintedMapsStay AnswersReader
printed_maps_stay reader bytes text is h = canon_stays text (printed reader bytes text is h)
