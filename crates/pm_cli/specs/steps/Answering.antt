-- What the code of a command answers: the answer as defined, or want of memory.
use Rattle.std.specs.Prelude.{◌≡◌, ℕ, List, Some, Result, Ok, Err, ⊤, Vec}
use Rattle.std.specs.declared.alloc.Global.{Global}
use Rattle.pm_map.specs.declared.class_refusal.ClassRefusal.{ClassRefusal}
use Rattle.pm_map.specs.Rotation.{RotationSystem}
use Rattle.pm_reach.specs.declared.counting.CensusRefusal.{CensusRefusal}
use Rattle.pm_reach.specs.declared.counting.CensusRefusal.TheVariants as census
use Rattle.pm_cli.specs.declared.refusal.Limit.TheVariants.{Lists}
use Rattle.pm_cli.specs.declared.refusal.Refusal.{Refusal}
use Rattle.pm_cli.specs.declared.refusal.Refusal.TheVariants.{Limited}
use Rattle.pm_cli.specs.declared.refusal.Stop.{Stop}
use Rattle.pm_cli.specs.declared.refusal.Stop.TheVariants.{Refused, Read, Write, Memory}
use Rattle.pm_cli.specs.MapAnswers.{MapRelation, rule_of_class}

-- a stop at a refusal of this kind, or at want of memory; what answers neither reads nor writes
abbrev pub StopsBy : (Refusal → Type 0) → Stop → Type 0
StopsBy refuses (Refused refusal) = refuses refusal
StopsBy refuses Memory = ⊤
StopsBy refuses Read = ⊥
StopsBy refuses Write = ⊥

-- an answer, or want of memory
abbrev pub IsAnswerBy : (Result (List ℕ) Refusal → Type 0) → Result (Vec ℕ Global) Stop → Type 0
IsAnswerBy answers (Ok text) = answers (Ok text.items)
IsAnswerBy answers (Err stop) = StopsBy (λ refusal. answers (Err refusal)) stop

-- what is answered to a map: a text, or the rule that it breaks
pub data AnswersTo (relation : MapRelation) (map : RotationSystem) : Result (List ℕ) Refusal → Type 0 where
  tells : (text : List ℕ) → relation.text_of map text → AnswersTo relation map (Ok text)
  breaks_rule : (refusal : Refusal) (why : ClassRefusal) → rule_of_class why ≡ Some refusal → relation.refuses map why → AnswersTo relation map (Err refusal)

-- how a run stops where there is no census
abbrev pub stop_of_census : CensusRefusal → Stop
stop_of_census census.Memory = Memory
stop_of_census census.TooManyLists = Refused (Limited Lists)
