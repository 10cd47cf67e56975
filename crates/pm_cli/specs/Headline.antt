-- The headline: for every class and admissible size `sample` carries the valid lists of choices one to one onto the pairs of
-- a rooted map of that class and size and a valid residue, `unsample` carries each pair back, and every other file is
-- refused by the first rule that it breaks.
use Rattle.std.specs.Prelude.{◌≡◌, ◌≢◌, ℕ, List, [], ◌∷◌, ◌++◌, Option, Some, Result, Ok, Err, codes}
use Rattle.pm_limits.specs.declared.TheConstants.{MAX_EDGES}
use Rattle.pm_io.specs.Bytes.{added}
use Rattle.pm_io.specs.Faults.{FaultsRose}
use Rattle.pm_text.specs.Broken.{newline}
use Rattle.pm_lists.specs.ListLine.{list_line}
use Rattle.pm_lists.specs.Valid.{IsValidList}
use Rattle.pm_map.specs.Canonical.{IsCanonical, IsCanonicalOf}
use Rattle.pm_map.specs.Rotation.{RotationSystem, IsRootedMap}
use Rattle.pm_mapfile.specs.Answers.{AnswersFile}
use Rattle.pm_class.specs.Sampling.{HasOneSample}
use Rattle.pm_class.specs.Unsampling.{HasOneList}
use Rattle.pm_cli.specs.declared.class.Class.{Class}
use Rattle.pm_cli.specs.declared.class.Size.{Size}
use Rattle.pm_cli.specs.declared.command.Command.TheVariants.{Reads}
use Rattle.pm_cli.specs.declared.command.Reader.TheVariants.{Unsample, Sample}
use Rattle.pm_cli.specs.declared.refusal.Refusal.{Refusal}
use Rattle.pm_cli.specs.Answer.{Answers}
use Rattle.pm_cli.specs.Classes.{AtSize, sized, IsSize, class_of}
use Rattle.pm_cli.specs.Commands.{Spells}
use Rattle.pm_cli.specs.Lines.{status_of_refusal, line, text_of_refusal}
use Rattle.pm_cli.specs.Sampling.{IsTextOfSample}

-- a stream before and after a run: the bytes that it has left or holds, where it tells them, and its count of faults
pub record Stream : Type 0 where
  pub before : Option (List ℕ)
  pub after : Option (List ℕ)
  pub faults_before : ℕ
  pub faults_after : ℕ

-- all that a contract sees of a run: the words after the program's name, the three streams and the status
pub record Run : Type 0 where
  pub words : List (List ℕ)
  pub input : Stream
  pub output : Stream
  pub error : Stream
  pub status : ℕ

-- the stream had no fault in the run: its count of faults didn't rise, and doesn't stand at its greatest number
abbrev pub HadNoFault : Stream → Type 0
HadNoFault stream = FaultsRose stream.faults_before stream.faults_after → ⊥

-- the input told its bytes, these; neither it nor the output had a fault; and memory wasn't wanting
pub record IsQuiet (run : Run) (bytes : List ℕ) : Type 0 where
  pub holds : run.input.before ≡ Some bytes
  pub read : HadNoFault run.input
  pub written : HadNoFault run.output
  pub no_want : run.status ≢ 9

-- the bytes spell a list of choices that is valid for the size: they are one line, `choices` and its numbers
pub record IsListFile (at : AtSize) (choices bytes : List ℕ) : Type 0 where
  pub valid : IsValidList choices at.choice_limits
  pub spelled : bytes ≡ list_line (codes "choices") choices ++ newline ∷ []

-- the bytes are a map file of a map, whatever the names of its darts and in whatever order its vertices stand, and of a
-- residue; the map is of the class and size, which is admissible, and the residue is valid for the size
pub record IsPairFile (at : AtSize) (map : RotationSystem) (residue bytes : List ℕ) : Type 0 where
  pub admissible : at.is_size
  pub is_file : AnswersFile bytes MAX_EDGES (Some residue) (Ok map)
  pub in_class : at.has map
  pub valid : IsValidList residue at.residue_limits

-- the text is that of the map and the residue that the choices give; the map is a rooted one, canonical, of the class and
-- size, and the residue is valid for the size
pub record IsTextOfGiven (at : AtSize) (choices text : List ℕ) : Type 0 where
  pub map : RotationSystem
  pub residue : List ℕ
  pub given : at.samples choices map residue
  pub rooted : IsRootedMap map
  pub canonical : IsCanonical map
  pub in_class : at.has map
  pub valid : IsValidList residue at.residue_limits
  pub is_text : IsTextOfSample map residue text

-- the text spells a valid list that gives the canonical map of the map, and the residue
pub record IsTextOfGiving (at : AtSize) (map : RotationSystem) (residue text : List ℕ) : Type 0 where
  pub choices : List ℕ
  pub is_list : IsListFile at choices text
  pub canonical : RotationSystem
  pub is_canonical : IsCanonicalOf map canonical
  pub given : at.samples choices canonical residue

-- the run did what was asked: its status is 0, and it added such a text to the output, and nothing else
pub record IsDone (run : Run) (is_text : List ℕ → Type 0) : Type 0 where
  pub text : List ℕ
  pub is : is_text text
  pub done : run.status ≡ 0
  pub printed : run.output.after ≡ added run.output.before text

-- The run refused the bytes by the first rule that they break: the words and the bytes have this refusal as their answer,
-- and no other. The status is the refusal's, nothing was added to the output, and the refusal's line was added to the
-- error stream, where that had no fault.
pub record IsRefused (run : Run) (bytes : List ℕ) : Type 0 where
  pub refusal : Refusal
  pub answers : Answers run.words bytes (Err refusal)
  pub only : (other : Result (List ℕ) Refusal) → Answers run.words bytes other → other ≡ Err refusal
  pub status : run.status ≡ status_of_refusal refusal
  pub nothing_printed : run.output.after ≡ run.output.before
  pub told : HadNoFault run.error → run.error.after ≡ added run.error.before (line (text_of_refusal refusal))

-- each valid list is sampled: for the words `sample CLASS SIZE` and a file that spells it, the text of the map and the
-- residue that it gives is printed
abbrev pub SamplesEachList : Run → Type 0
SamplesEachList run =
    (size : Size) (choices bytes : List ℕ) → IsQuiet run bytes → Spells run.words (Reads (Sample size)) → IsListFile (sized size) choices bytes
    → IsDone run (IsTextOfGiven (sized size) choices)

-- each pair of a map and a residue is unsampled: for the words `unsample CLASS` and any file of the two, a valid list that
-- gives them is printed
abbrev pub UnsamplesEachPair : Run → Type 0
UnsamplesEachPair run =
    (size : Size) (map : RotationSystem) (residue bytes : List ℕ) → IsQuiet run bytes → Spells run.words (Reads (Unsample (class_of size)))
    → IsPairFile (sized size) map residue bytes → IsDone run (IsTextOfGiving (sized size) map residue)

-- no list gives two pairs, and no two lists give one pair
pub record IsOneToOne (at : AtSize) : Type 0 where
  pub one_pair : HasOneSample at.samples
  pub one_list : HasOneList at.samples

-- lists and pairs are one to one, for each class and admissible size
abbrev pub ListsAndPairsAreOneToOne : Type 0
ListsAndPairsAreOneToOne = (size : Size) → IsSize size → IsOneToOne (sized size)

-- the words are those of `sample` and the bytes spell no valid list, or they are those of `unsample` and the bytes are no
-- file of a pair of the class
pub data IsOther (words : List (List ℕ)) (bytes : List ℕ) : Type 0 where
  no_list : (size : Size) → Spells words (Reads (Sample size)) → ((choices : List ℕ) → IsListFile (sized size) choices bytes → ⊥) → IsOther words bytes
  no_pair : (class : Class) → Spells words (Reads (Unsample class))
      → ((size : Size) (map : RotationSystem) (residue : List ℕ) → class_of size ≡ class → IsPairFile (sized size) map residue bytes → ⊥) → IsOther words bytes

-- every other file is refused
abbrev pub RefusesAllElse : Run → Type 0
RefusesAllElse run = (bytes : List ℕ) → IsQuiet run bytes → IsOther run.words bytes → IsRefused run bytes

pub record IsHeadline (run : Run) : Type 0 where
  pub samples_each_list : SamplesEachList run
  pub unsamples_each_pair : UnsamplesEachPair run
  pub one_to_one : ListsAndPairsAreOneToOne
  pub refuses_all_else : RefusesAllElse run
