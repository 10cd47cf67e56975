-- The answers of the readers, from what was read and the rotation that it tells.
use Rattle.std.proofs.Common.{ℕ, ◌≤◌, List, length, drop, map, ap, subst, arith, length-take, Result, Ok, Err}
use Rattle.std.specs.Prelude.{Option, Some, None}
use Rattle.std.specs.List.{concat}
use Rattle.pm_limits.specs.declared.TheConstants.{MAX_EDGES}
use Rattle.pm_map.specs.declared.rooted_map.RootedMap.{RootedMap}
use Rattle.pm_map.specs.declared.refusal.MapRefusal.{MapRefusal}
use Rattle.pm_map.specs.declared.refusal.MapRefusal.TheVariants.{Memory as MemoryOfMap, TooMany, NotPermutation, NotConnected, Genus}
use Rattle.pm_map.specs.Missing.{IsLeastMissing}
use Rattle.pm_map.specs.Parts.{IsMapAnswer}
use Rattle.pm_lists.specs.declared.num_list.NumList.{NumList}
use Rattle.pm_mapfile.specs.declared.file.ReadFile.{ReadFile}
use Rattle.pm_mapfile.specs.declared.read.TextRefusal.{TextRefusal}
use Rattle.pm_mapfile.specs.declared.read.TextRefusal.TheVariants.{Memory as MemoryOfText, Text as LineOfText}
use Rattle.pm_mapfile.specs.MapFile.{MapLines, AreMapLines, BeginsWithMapText, IsMapFile, IsSampleFile, IsResidue}
use Rattle.pm_mapfile.specs.steps.Lines.{IsReadMap}
use Rattle.pm_mapfile.specs.steps.ReadText.{IsReadTextAnswer, IsResidueAnswer}
use Rattle.pm_mapfile.specs.steps.ReadFile.{IsReadFileAnswer}
use Rattle.pm_mapfile.specs.steps.Rotation.{turned_lines, CarriesOn, IsRotationAnswer, IsTextAnswer}
use Rattle.pm_mapfile.specs.steps.Refusals.{refusal_of_text, refusal_of_map}
use Rattle.pm_mapfile.specs.Answers.{IsLinesAnswer, AnswersText, AnswersFile, IsAnswerOfForm, IsMapTextAnswer, IsMapFileAnswer, IsSampleFileAnswer}
use Rattle.pm_mapfile.proofs.FileLemmas.{cut_after}
use Rattle.pm_mapfile.proofs.SampleLemmas.{sample_broken}
use Rattle.pm_mapfile.proofs.LinesLemmas.{rotation_of, rotation_is_whole}

-- the rotation of the lines is answered as the lines are
answer_of_lines : (m : MapLines) (limit : ℕ) (sigma : List ℕ) (answer : Result RootedMap MapRefusal) → AreMapLines m → m.edges ≤ limit → limit ≤ MAX_EDGES
    → CarriesOn (concat m.vertices) (turned_lines (map length m.vertices) (concat m.vertices)) sigma → IsMapAnswer sigma m.root answer → IsLinesAnswer m limit answer
answer_of_lines m limit sigma (Ok found) are few least carries answered =
    record { few = few; sigma = sigma; is_rotation = rotation_of m sigma are carries; answered = answered }
answer_of_lines m limit sigma (Err (TooMany edges)) are few least carries answered =
    absurd (let counted = answered.counted in let many = answered.many in let size = carries.size in let count = are.count in omega arith)
answer_of_lines m limit sigma (Err (NotPermutation dart)) are few least carries answered = absurd (rotation_is_whole m sigma dart carries answered.missing)
answer_of_lines m limit sigma (Err (NotConnected dart)) are few least carries answered =
    record { few = few; sigma = sigma; is_rotation = rotation_of m sigma are carries; answered = answered }
answer_of_lines m limit sigma (Err (Genus euler)) are few least carries answered =
    record { few = few; sigma = sigma; is_rotation = rotation_of m sigma are carries; answered = answered }
answer_of_lines m limit sigma (Err MemoryOfMap) are few least carries answered = answered

pub answer_of_rotation : (edges root limit : ℕ) (darts sizes sigma : List ℕ) (answer : Result RootedMap MapRefusal) → edges ≤ limit → limit ≤ MAX_EDGES
    → CarriesOn darts (turned_lines sizes darts) sigma → IsMapAnswer sigma root answer → IsTextAnswer edges root darts sizes limit answer
answer_of_rotation edges root limit darts sizes sigma answer few least carries answered vertices are darts_are sizes_are =
    answer_of_lines (record { edges = edges; root = root; vertices = vertices }) limit sigma answer are few least
    (subst (λ l. CarriesOn (concat vertices) (turned_lines l (concat vertices)) sigma) sizes_are (subst (λ l. CarriesOn l (turned_lines sizes l) sigma) darts_are carries)) answered

-- no rotation is told
pub answer_without_rotation : (edges root limit : ℕ) (darts sizes : List ℕ) (refusal : MapRefusal) → edges ≤ limit → IsRotationAnswer darts sizes (Err refusal)
    → IsTextAnswer edges root darts sizes limit (Err refusal)
answer_without_rotation edges root limit darts sizes (TooMany n) few told vertices are darts_are sizes_are = absurd told
answer_without_rotation edges root limit darts sizes (NotPermutation dart) few told vertices are darts_are sizes_are = record { few = few; missing = subst (λ l. IsLeastMissing l dart) darts_are told }
answer_without_rotation edges root limit darts sizes (NotConnected dart) few told vertices are darts_are sizes_are = absurd told
answer_without_rotation edges root limit darts sizes (Genus euler) few told vertices are darts_are sizes_are = absurd told
answer_without_rotation edges root limit darts sizes MemoryOfMap few told vertices are darts_are sizes_are = told

-- a map text was read, and its lines are answered so
pub answers_text : (edges root after limit : ℕ) (bytes darts sizes : List ℕ) (answer : Result RootedMap MapRefusal) → IsReadMap bytes edges root darts sizes after
    → IsTextAnswer edges root darts sizes limit answer → AnswersText bytes limit after answer
answers_text edges root after limit bytes darts sizes answer r answered = record {
  lines = record { edges = edges; root = root; vertices = r.vertices };
  are_lines = r.are_lines;
  rest = drop after bytes;
  spelled = cut_after edges root after bytes darts sizes r;
  place = let prefix = ap length r.prefix in omega (arith, prefix, length-take after bytes, r.within);
  answered = answered r.vertices r.are_lines r.darts_are r.sizes_are;
}

-- a map file was read, and its lines are answered so
pub answers_file : (edges root after limit : ℕ) (bytes darts sizes : List ℕ) (residue : Option (List ℕ)) (answer : Result RootedMap MapRefusal) → IsReadMap bytes edges root darts sizes after
    → IsResidue residue (drop after bytes) → IsTextAnswer edges root darts sizes limit answer → AnswersFile bytes limit residue answer
answers_file edges root after limit bytes darts sizes residue answer r is answered = record {
  lines = record { edges = edges; root = root; vertices = r.vertices };
  are_lines = r.are_lines;
  rest = drop after bytes;
  is_residue = is;
  spelled = cut_after edges root after bytes darts sizes r;
  answered = answered r.vertices r.are_lines r.darts_are r.sizes_are;
}

-- refusals
pub text_refused : (bytes : List ℕ) (limit : ℕ) (refusal : TextRefusal) → IsReadTextAnswer bytes (Err refusal) → IsMapTextAnswer bytes limit (Err (refusal_of_text refusal))
text_refused bytes limit MemoryOfText b = b
text_refused bytes limit (LineOfText line) b = b

pub file_refused : (bytes : List ℕ) (limit : ℕ) (refusal : TextRefusal) → IsReadFileAnswer bytes (Err refusal) → IsMapFileAnswer bytes limit (Err (refusal_of_text refusal))
file_refused bytes limit MemoryOfText b = b
file_refused bytes limit (LineOfText line) b = b

pub sample_refused : (bytes : List ℕ) (limit : ℕ) (refusal : TextRefusal) → IsReadFileAnswer bytes (Err refusal) → IsSampleFileAnswer bytes limit (Err (refusal_of_text refusal))
sample_refused bytes limit MemoryOfText b = b
sample_refused bytes limit (LineOfText line) b = sample_broken bytes line b

-- something was read, and the lines break a rule
pub map_refused : {Read : Type 0} (form : List ℕ → Type 0) (reads : Read → Result RootedMap MapRefusal → Type 0) (bytes : List ℕ) (read : Read) (refusal : MapRefusal) → reads read (Err refusal)
    → IsAnswerOfForm form reads bytes (Err (refusal_of_map refusal))
map_refused form reads bytes read MemoryOfMap a = tt
map_refused form reads bytes read (TooMany edges) a = ((read, a), λ e. cc)
map_refused form reads bytes read (NotPermutation dart) a = ((read, a), λ e. cc)
map_refused form reads bytes read (NotConnected dart) a = ((read, a), λ e. cc)
map_refused form reads bytes read (Genus euler) a = ((read, a), λ e. cc)

pub text_map_refused : (bytes : List ℕ) (limit after : ℕ) (refusal : MapRefusal) → AnswersText bytes limit after (Err refusal) → IsMapTextAnswer bytes limit (Err (refusal_of_map refusal))
text_map_refused bytes limit = map_refused BeginsWithMapText (λ after. AnswersText bytes limit after) bytes

pub file_map_refused : (bytes : List ℕ) (limit : ℕ) (residue : Option NumList) (refusal : MapRefusal) → AnswersFile bytes limit residue (Err refusal)
    → IsMapFileAnswer bytes limit (Err (refusal_of_map refusal))
file_map_refused bytes limit = map_refused IsMapFile (λ residue. AnswersFile bytes limit residue) bytes

pub sample_map_refused : (bytes : List ℕ) (limit : ℕ) (residue : NumList) (refusal : MapRefusal) → AnswersFile bytes limit (Some residue) (Err refusal)
    → IsSampleFileAnswer bytes limit (Err (refusal_of_map refusal))
sample_map_refused bytes limit = map_refused IsSampleFile (λ residue. AnswersFile bytes limit (Some residue)) bytes

-- what may follow a map text
residue_of : (bytes : List ℕ) (residue : Option NumList) → IsResidueAnswer bytes (Ok residue) → IsResidue residue bytes
residue_of bytes None none = record { fit = tt; spelled = none }
residue_of bytes (Some numbers) is = is

pub file_answers : (limit : ℕ) (bytes : List ℕ) (file : ReadFile) (answer : Result RootedMap MapRefusal) → IsReadFileAnswer bytes (Ok file)
    → IsTextAnswer file.text.edges file.text.root file.text.darts.items file.text.sizes.items limit answer → AnswersFile bytes limit file.residue answer
file_answers limit bytes file answer read answered =
    answers_file file.text.edges file.text.root file.text.after limit bytes file.text.darts.items file.text.sizes.items file.residue answer read.0
    (residue_of (drop file.text.after bytes) file.residue read.1) answered
