-- What a map text and a map file are answered: the map, or the first rule that is broken. The answers name no code.
use Rattle.std.specs.Prelude.{◌≡◌, ℕ, ◌<◌, ◌≤◌, List, ◌++◌, Option, Some, Result, Ok, Err, ⊤, length}
use Rattle.std.specs.List.{concat}
use Rattle.pm_text.specs.Broken.{IsBrokenLine}
use Rattle.pm_lists.specs.declared.num_list.NumList.{NumList}
use Rattle.pm_map.specs.declared.rooted_map.RootedMap.{RootedMap}
use Rattle.pm_map.specs.declared.refusal.MapRefusal.{MapRefusal}
use Rattle.pm_map.specs.declared.refusal.MapRefusal.TheVariants.{Memory as MemoryOfMap, TooMany, NotPermutation, NotConnected, Genus}
use Rattle.pm_map.specs.Missing.{IsLeastMissing}
use Rattle.pm_map.specs.Parts.{IsMapAnswer}
use Rattle.pm_mapfile.specs.declared.refusal.FileRefusal.{FileRefusal}
use Rattle.pm_mapfile.specs.declared.refusal.FileRefusal.TheVariants.{Memory, Text, Map}
use Rattle.pm_mapfile.specs.MapFile.{MapLines, AreMapLines, lines_text, BeginsWithMapText, IsResidue, IsMapFile, IsSampleFile}
use Rattle.pm_mapfile.specs.Vertices.{IsRotationOf}

-- the lines tell more edges than the limit, and so many
pub record HasTooManyEdges (lines : MapLines) (limit edges : ℕ) : Type 0 where
  pub many : limit < lines.edges
  pub counted : edges ≡ lines.edges

-- within the limit, this is the least dart that stands on no line; so some dart stands twice
pub record LeavesOut (lines : MapLines) (limit dart : ℕ) : Type 0 where
  pub few : lines.edges ≤ limit
  pub missing : IsLeastMissing (concat lines.vertices) dart

-- within the limit, the lines tell a rotation, and this is the answer to it and the root
pub record TellsRotation (lines : MapLines) (limit : ℕ) (answer : Result RootedMap MapRefusal) : Type 0 where
  pub few : lines.edges ≤ limit
  pub sigma : List ℕ
  pub is_rotation : IsRotationOf lines.vertices sigma
  pub answered : IsMapAnswer sigma lines.root answer

-- The answer to the lines of a map text: the map, or the first rule that they break. Want of memory may come at any.
abbrev pub IsLinesAnswer : MapLines → ℕ → Result RootedMap MapRefusal → Type 0
IsLinesAnswer lines limit (Ok map) = TellsRotation lines limit (Ok map)
IsLinesAnswer lines limit (Err (TooMany edges)) = HasTooManyEdges lines limit edges
IsLinesAnswer lines limit (Err (NotPermutation dart)) = LeavesOut lines limit dart
IsLinesAnswer lines limit (Err (NotConnected dart)) = TellsRotation lines limit (Err (NotConnected dart))
IsLinesAnswer lines limit (Err (Genus euler)) = TellsRotation lines limit (Err (Genus euler))
IsLinesAnswer lines limit (Err MemoryOfMap) = ⊤

-- the bytes begin with a map text, `after` is the place after its last line, and this is the answer to its lines
pub record AnswersText (bytes : List ℕ) (limit after : ℕ) (answer : Result RootedMap MapRefusal) : Type 0 where
  pub lines : MapLines
  pub are_lines : AreMapLines lines
  pub rest : List ℕ
  pub spelled : bytes ≡ lines_text lines ++ rest
  pub place : after ≡ length (lines_text lines)
  pub answered : IsLinesAnswer lines limit answer

-- the bytes are a map text and what may follow it in a map file, and this is the answer to the lines of the map text
pub record AnswersFile (bytes : List ℕ) (limit : ℕ) (residue : Option (List ℕ)) (answer : Result RootedMap MapRefusal) : Type 0 where
  pub lines : MapLines
  pub are_lines : AreMapLines lines
  pub rest : List ℕ
  pub is_residue : IsResidue residue rest
  pub spelled : bytes ≡ lines_text lines ++ rest
  pub answered : IsLinesAnswer lines limit answer

-- The answer to bytes that should have a form, where `reads` says what is read of them and how the lines of the map are
-- answered: the map and what is read beside it; or the line at which the bytes break the form; or the rule that the lines
-- break. Want of memory may come at any, and stands in no other refusal.
abbrev pub IsAnswerOfForm : {Read : Type 0} → (List ℕ → Type 0) → (Read → Result RootedMap MapRefusal → Type 0) → List ℕ
    → Result (RootedMap × Read) FileRefusal → Type 0
IsAnswerOfForm form reads bytes (Ok read) = reads read.1 (Ok read.0)
IsAnswerOfForm form reads bytes (Err (Text line)) = IsBrokenLine form bytes line
IsAnswerOfForm {Read = Read} form reads bytes (Err (Map refusal)) = ((read : Read) × reads read (Err refusal)) × (refusal ≡ MemoryOfMap → ⊥)
IsAnswerOfForm form reads bytes (Err Memory) = ⊤

-- The answer to bytes that should begin with a map text: beside the map the place after the text.
abbrev pub IsMapTextAnswer : List ℕ → ℕ → Result (RootedMap × ℕ) FileRefusal → Type 0
IsMapTextAnswer bytes limit = IsAnswerOfForm BeginsWithMapText (λ after. AnswersText bytes limit after) bytes

-- The answer to bytes that should be a map file: beside the map the numbers of the residue line, where there is one.
abbrev pub IsMapFileAnswer : List ℕ → ℕ → Result (RootedMap × Option NumList) FileRefusal → Type 0
IsMapFileAnswer bytes limit = IsAnswerOfForm IsMapFile (λ residue. AnswersFile bytes limit residue) bytes

-- The answer to bytes that should be a sample file: beside the map the numbers of the residue line.
abbrev pub IsSampleFileAnswer : List ℕ → ℕ → Result (RootedMap × NumList) FileRefusal → Type 0
IsSampleFileAnswer bytes limit = IsAnswerOfForm IsSampleFile (λ residue. AnswersFile bytes limit (Some residue)) bytes

-- There is one answer, but for want of memory: so each refusal comes exactly where its rule is the first that is broken.
abbrev pub HasOneAnswer : {Read : Type 0} → (Result (RootedMap × Read) FileRefusal → Type 0) → Type 0
HasOneAnswer {Read = Read} answers =
    (first second : Result (RootedMap × Read) FileRefusal) → answers first → answers second
    → (first ≡ Err Memory → ⊥) → (second ≡ Err Memory → ⊥) → first ≡ second

abbrev pub HasOneMapTextAnswer : Type 0
HasOneMapTextAnswer = (bytes : List ℕ) (limit : ℕ) → HasOneAnswer (IsMapTextAnswer bytes limit)

abbrev pub HasOneMapFileAnswer : Type 0
HasOneMapFileAnswer = (bytes : List ℕ) (limit : ℕ) → HasOneAnswer (IsMapFileAnswer bytes limit)

abbrev pub HasOneSampleFileAnswer : Type 0
HasOneSampleFileAnswer = (bytes : List ℕ) (limit : ℕ) → HasOneAnswer (IsSampleFileAnswer bytes limit)
