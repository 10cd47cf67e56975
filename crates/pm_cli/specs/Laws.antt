-- What holds of the answer.
use Rattle.std.specs.Prelude.{◌≡◌, ℕ, List, ◌++◌, Result, Ok, ⊤}
use Rattle.pm_limits.specs.declared.TheConstants.{MAX_EDGES}
use Rattle.pm_map.specs.Rotation.{RotationSystem}
use Rattle.pm_mapfile.specs.MapFile.{IsResidueLine}
use Rattle.pm_cli.specs.declared.class.Checked.TheVariants.{Sampled}
use Rattle.pm_cli.specs.declared.class.Class.{Class}
use Rattle.pm_cli.specs.declared.class.Size.{Size}
use Rattle.pm_cli.specs.declared.close.Trees.TheVariants.{Blossoming}
use Rattle.pm_cli.specs.declared.command.MapTask.TheVariants.{Canon, Medial, Unmedial, Dual}
use Rattle.pm_cli.specs.declared.command.Reader.{Reader}
use Rattle.pm_cli.specs.declared.command.Reader.TheVariants.{Close, OpenEulerian, OfMap, Check, Unsample, Sample}
use Rattle.pm_cli.specs.declared.command.Command.TheVariants.{Reads}
use Rattle.pm_cli.specs.declared.refusal.Refusal.{Refusal}
use Rattle.pm_cli.specs.Answer.{Answers}
use Rattle.pm_cli.specs.Classes.{AtSize, sized, IsSize, class_of}
use Rattle.pm_cli.specs.Commands.{spelling}
use Rattle.pm_cli.specs.MapAnswers.{HasMap, PrintsImage, counts_line}
use Rattle.pm_cli.specs.Sampling.{HasChoices}

-- words and bytes have one answer and no other
abbrev pub HasOneAnswer : Type 0
HasOneAnswer = (words : List (List ℕ)) (bytes : List ℕ) (one other : Result (List ℕ) Refusal) → Answers words bytes one → Answers words bytes other → one ≡ other

-- one of these is the answer: that none of all answers is one, can't be
abbrev pub IsAnswered : (Result (List ℕ) Refusal → Type 0) → Type 0
IsAnswered answers = ((answer : Result (List ℕ) Refusal) → answers answer → ⊥) → ⊥

-- no words and bytes are without an answer
abbrev pub HasSomeAnswer : Type 0
HasSomeAnswer = (words : List (List ℕ)) (bytes : List ℕ) → IsAnswered (Answers words bytes)

-- what a command answers to a file, by its words and the limit of bytes
abbrev pub AnswersByWords : Reader → List ℕ → Result (List ℕ) Refusal → Type 0
AnswersByWords reader bytes answer = Answers (spelling (Reads reader)) bytes answer

-- The laws below are of what commands answer to files. Each holds of the files alone (`AnswersReader`), and by the words
-- of the commands and the limit of bytes as well (`AnswersByWords`), which no text that is given back exceeds.

-- what `close eulerian` answers to a tree file, `open eulerian` answers by that file
abbrev pub ClosedTreesOpen : (Reader → List ℕ → Result (List ℕ) Refusal → Type 0) → Type 0
ClosedTreesOpen answers = (bytes text : List ℕ) → answers (Close Blossoming) bytes (Ok text) → answers OpenEulerian text (Ok bytes)

-- and what `open eulerian` answers to a map file, `close eulerian` answers as `canon` answers that file
abbrev pub OpenedMapsClose : (Reader → List ℕ → Result (List ℕ) Refusal → Type 0) → Type 0
OpenedMapsClose answers =
    (bytes text canonical : List ℕ) → answers OpenEulerian bytes (Ok text) → answers (OfMap Canon) bytes (Ok canonical)
    → answers (Close Blossoming) text (Ok canonical)

-- the command answers by the text of a map
abbrev pub PrintsMap : Reader → Type 0
PrintsMap (Close trees) = ⊤
PrintsMap (OfMap task) = PrintsImage task
PrintsMap OpenEulerian = ⊥
PrintsMap (Check class) = ⊥
PrintsMap (Unsample class) = ⊥
PrintsMap (Sample size) = ⊥

-- what such a command answers, `canon` answers by that very text
abbrev pub PrintedMapsStay : (Reader → List ℕ → Result (List ℕ) Refusal → Type 0) → Type 0
PrintedMapsStay answers = (reader : Reader) (bytes text : List ℕ) → PrintsMap reader → answers reader bytes (Ok text) → answers (OfMap Canon) text (Ok text)

-- what the one command answers to a map file, the other answers as `canon` answers that file
abbrev pub ImagesReturn : (Reader → List ℕ → Result (List ℕ) Refusal → Type 0) → Reader → Reader → Type 0
ImagesReturn answers there back =
    (bytes text canonical : List ℕ) → answers there bytes (Ok text) → answers (OfMap Canon) bytes (Ok canonical) → answers back text (Ok canonical)

-- so it is of `dual` and `dual`, of `medial` and `unmedial`, and of `unmedial` and `medial`
abbrev pub DualsReturn : (Reader → List ℕ → Result (List ℕ) Refusal → Type 0) → Type 0
DualsReturn answers = ImagesReturn answers (OfMap Dual) (OfMap Dual)

abbrev pub MedialsReturn : (Reader → List ℕ → Result (List ℕ) Refusal → Type 0) → Type 0
MedialsReturn answers = ImagesReturn answers (OfMap Medial) (OfMap Unmedial)

abbrev pub UnmedialsReturn : (Reader → List ℕ → Result (List ℕ) Refusal → Type 0) → Type 0
UnmedialsReturn answers = ImagesReturn answers (OfMap Unmedial) (OfMap Medial)

-- what `sample` answers to a choices file, `unsample` for the class answers by that file
abbrev pub SampledListsReturn : (Reader → List ℕ → Result (List ℕ) Refusal → Type 0) → Type 0
SampledListsReturn answers =
    (size : Size) (bytes text : List ℕ) → IsSize size → answers (Sample size) bytes (Ok text) → answers (Unsample (class_of size)) text (Ok bytes)

-- the choices give a map and a residue, and the answer is the line of how many vertices, edges and faces that map has
pub record IsCounted (samples : RotationSystem → List ℕ → Type 0) (answer : List ℕ → Type 0) : Type 0 where
  pub map : RotationSystem
  pub residue : List ℕ
  pub sampled : samples map residue
  pub counted : answer (counts_line map)

-- what `sample` answers to a choices file, `check` for the class answers by the numbers of the map that the choices give
abbrev pub SampledMapsAreCounted : (Reader → List ℕ → Result (List ℕ) Refusal → Type 0) → Type 0
SampledMapsAreCounted answers =
    (size : Size) (bytes text : List ℕ) → IsSize size → answers (Sample size) bytes (Ok text)
    → HasChoices bytes (λ choices. let at : AtSize = sized size in IsCounted (at.samples choices) (λ line. answers (Check (Sampled (class_of size))) text (Ok line)))

-- For the size of the map in the map file, which is of the class, what is sampled of a file of choices is the text of a map
-- and the residue line of the map file.
pub record IsSampledAgain (answers : Reader → List ℕ → Result (List ℕ) Refusal → Type 0) (class : Class) (map_file map_text choices_file : List ℕ) : Type 0 where
  pub size : Size
  pub is_of : class_of size ≡ class
  pub admissible : IsSize size
  pub of_map : HasMap map_file MAX_EDGES (let at : AtSize = sized size in at.has)
  pub prefix : List ℕ
  pub line : List ℕ
  pub is_line : IsResidueLine line
  pub ends_so : map_file ≡ prefix ++ line
  pub sampled : answers (Sample size) choices_file (Ok (map_text ++ line))

-- what is unsampled of a map file, is sampled as the text that `canon` answers to that file, and its residue line
abbrev pub UnsampledPairsReturn : (Reader → List ℕ → Result (List ℕ) Refusal → Type 0) → Type 0
UnsampledPairsReturn answers =
    (class : Class) (bytes text canonical : List ℕ) → answers (Unsample class) bytes (Ok text) → answers (OfMap Canon) bytes (Ok canonical)
    → IsSampledAgain answers class bytes canonical text
