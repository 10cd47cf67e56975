-- What refuses a file, passed on.
use Rattle.std.proofs.Common.{◌≡◌, ℕ, List, sym, subst}
use Rattle.std.specs.Prelude.{Option, Some, Result, Ok, Err, Vec}
use Rattle.std.specs.Result.{IsErrAnd}
use Rattle.std.specs.declared.alloc.Global.{Global}
use Rattle.pm_map.specs.declared.refusal.MapRefusal.{MapRefusal}
use Rattle.pm_map.specs.declared.rooted_map.RootedMap.{RootedMap}
use Rattle.pm_map.specs.Rotation.{RotationSystem}
use Rattle.pm_mapfile.specs.Answers.{AnswersFile, IsAnswerOfForm}
use Rattle.pm_mapfile.specs.declared.refusal.FileRefusal.{FileRefusal}
use Rattle.pm_mapfile.specs.declared.refusal.FileRefusal.TheVariants as reading
use Rattle.pm_cli.specs.declared.refusal.Refusal.{Refusal}
use Rattle.pm_cli.specs.declared.refusal.Stop.{Stop}
use Rattle.pm_cli.specs.declared.refusal.Stop.TheVariants.{Refused, Read, Write, Memory}
use Rattle.pm_cli.specs.MapAnswers.{RefusesFile, broken, makes_none, RefusesMapFile, MapRelation, AnswersMap, told, no_map, breaks}
use Rattle.pm_cli.specs.steps.Answering.{StopsBy, IsAnswerBy, AnswersTo, tells, breaks_rule}
use Rattle.pm_cli.specs.steps.MapReading.{rule_of_file}
use Rattle.pm_cli.proofs.MapRelations.{same_some, none_some}

-- a refusal of one kind is one of another
pub stopped : (refuses other : Refusal → Type 0) → ((refusal : Refusal) → refuses refusal → other refusal) → (stop : Stop) → StopsBy refuses stop → StopsBy other stop
stopped refuses other same (Refused refusal) h = same refusal h
stopped refuses other same Memory h = tt
stopped refuses other same Read h = absurd h
stopped refuses other same Write h = absurd h

-- what holds of the stop that a `?` answers, holds of the result
pub stopped_at : {X : Type 0} (P : Result X Stop → Type 0) (stops : Stop → Type 0) → ((stop : Stop) → stops stop → P (Err stop)) → (result : Result X Stop) → IsErrAnd result stops → P result
stopped_at P stops holds (Ok value) is = absurd is
stopped_at P stops holds (Err stop) is = holds stop is

pub stopped_as : {X : Type 0} (P : Result X Stop → Type 0) (known : Stop) → P (Err known) → (result : Result X Stop) → IsErrAnd result (λ stop. stop ≡ known) → P result
stopped_as P known holds result is = stopped_at P (λ stop. stop ≡ known) (λ stop e. subst (λ (s : Stop). P (Err s)) (sym e) holds) result is

-- so it is of the refusal of an answer
pub refused_on : (answers : Result (List ℕ) Refusal → Type 0) (refuses : Refusal → Type 0) → ((refusal : Refusal) → refuses refusal → answers (Err refusal))
    → (result : Result (Vec ℕ Global) Stop) → IsErrAnd result (StopsBy refuses) → IsAnswerBy answers result
refused_on answers refuses same result is = stopped_at (IsAnswerBy answers) (StopsBy refuses) (λ stop h. stopped refuses (λ refusal. answers (Err refusal)) same stop h) result is

-- and of one that was refused before
pub passed_on : (answers : Result (List ℕ) Refusal → Type 0) (refuses : Refusal → Type 0) → ((refusal : Refusal) → refuses refusal → answers (Err refusal))
    → (stop : Stop) (result : Result (Vec ℕ Global) Stop) → StopsBy refuses stop → IsErrAnd result (λ s. s ≡ stop) → IsAnswerBy answers result
passed_on answers refuses same stop result h is =
    stopped_as (IsAnswerBy answers) stop (stopped refuses (λ refusal. answers (Err refusal)) same stop h) result is

-- the rule for which a file of a form is refused
pub file_refused : {Read : Type 0} (form : List ℕ → Type 0) (reads : Read → Result RootedMap MapRefusal → Type 0) (bytes : List ℕ) (why : FileRefusal)
    → IsAnswerOfForm form reads bytes (Err why) → (refusal : Refusal) → rule_of_file why ≡ Some refusal → RefusesFile form (λ made. (read : Read) × reads read (Err made)) bytes refusal
file_refused {Read} form reads bytes (reading.Text line) h refusal rule = subst (RefusesFile form (λ made. (read : Read) × reads read (Err made)) bytes) (same_some rule) (broken line h)
file_refused form reads bytes (reading.Map made) h refusal rule = makes_none refusal made rule h.0
file_refused form reads bytes reading.Memory h refusal rule = absurd (none_some rule)

-- what is answered to the map of a file, is answered to the file
module _ (relation : MapRelation) (bytes : List ℕ) (residue : Option (List ℕ)) (map : RotationSystem) (file : AnswersFile bytes relation.limit residue (Ok map)) where
  answered : (answer : Result (List ℕ) Refusal) → AnswersTo relation map answer → AnswersMap relation bytes answer
  answered _ (tells text is) = told text (record { residue = residue; map = map; answered = file; holds = is })
  answered _ (breaks_rule refusal why rule is) = breaks refusal why rule (record { residue = residue; map = map; answered = file; holds = is })

  pub answered_map : (result : Result (Vec ℕ Global) Stop) → IsAnswerBy (AnswersTo relation map) result → IsAnswerBy (AnswersMap relation bytes) result
  answered_map (Ok text) h = answered (Ok text.items) h
  answered_map (Err stop) h =
      stopped (λ refusal. AnswersTo relation map (Err refusal)) (λ refusal. AnswersMap relation bytes (Err refusal)) (λ refusal is. answered (Err refusal) is) stop h

-- a map file that is refused
pub file_passed_on : (relation : MapRelation) (bytes : List ℕ) (stop : Stop) (result : Result (Vec ℕ Global) Stop) → StopsBy (RefusesMapFile relation.limit bytes) stop
    → IsErrAnd result (λ s. s ≡ stop) → IsAnswerBy (AnswersMap relation bytes) result
file_passed_on relation bytes stop result h is =
    passed_on (AnswersMap relation bytes) (RefusesMapFile relation.limit bytes) (λ refusal refused. no_map refusal refused) stop result h is
